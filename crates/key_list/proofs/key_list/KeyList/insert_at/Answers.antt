use Rattle.std.proofs.Common.{◌∙◌}
use Rattle.key_list.specs.Members.{keys_in}
use Rattle.key_list.proofs.Rows.{inserted, inserted_last}
use Rattle.key_list.proofs.key_list.KeyList.insert_at.Goals as goal

pub invariant_of-self : goal.invariant_of-self
invariant_of-self g c =
    let row = (inserted c.args.self.now c.args.index c.args.key c.rotate_right.new.self c.requires.within c.requires.room c.rotate_right.ensures.after).0 in
    record { whole = row.whole; behind = row.behind; counted = row.counted }

pub returns : goal.returns
returns g c =
    let now_keys = (inserted c.args.self.now c.args.index c.args.key c.rotate_right.new.self c.requires.within c.requires.room c.rotate_right.ensures.after).1 in
    record {
      between = now_keys;
      last = λ e. now_keys ∙ inserted_last (keys_in c.args.self.now) c.args.index c.args.key e;
    }
