use Rattle.std.proofs.Common.{sym, refl, ◌∙◌}
use Rattle.peer_sets.specs.Held.{set_of}
use Rattle.records.proofs.Chosen.{tidied_more, tidied_all}
use Rattle.records.proofs.records.Records.tidy.Goals as goal

pub loop-key-init : goal.loop-key-init
loop-key-init g c =
    record {
      all = sym (c.into_iter-key-iterator.ensures.into_iter_gives ∙ c.iter-key-items.ensures.all ∙ c.keys-keys.ensures);
      first = record { now_records = refl; emptied = (refl, λ p k e. e) };
    }

pub loop-key-preserved : goal.loop-key-preserved
loop-key-preserved g c =
    tidied_more g.K.OrderedKey g.R.Roll g.met.K.OrderedKey.lawful (set_of c.args.members.now) c.args.self.now c.loop-key.self c.loop-key.yielded _ c.loop-key.invariant
    c.tidy_one.new.self c.in-Some.key _ c.in-Some.ensures.steps c.tidy_one.ensures

pub returns : goal.returns
returns g c =
    tidied_all g.K.OrderedKey g.R.Roll g.met.K.OrderedKey.lawful (set_of c.args.members.now) c.args.self.now c.loop-key.self c.loop-key.yielded _ c.loop-key.invariant c.in-None.ensures.steps.0
