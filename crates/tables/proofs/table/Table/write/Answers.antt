use Rattle.std.proofs.Common.{rules, arith}
use Rattle.std.proofs.lemmas.Grind.{common_steps}
use Rattle.tables.proofs.Listed.{listing-write}
use Rattle.tables.proofs.table.Table.write.Goals as goal

pub returns : goal.returns
returns g c =
    let s = c.args.self.now in
    let whole = c.put.ensures.whole in
    record {
      same_places = search rules;
      now_entries = λ key e. grind (arith, common_steps, listing-write g.K.OrderedKey.order g.met.K.OrderedKey.lawful (g.R.Roll.places s.roll) s.values c.args.place key c.args.value whole.long whole.proper.distinct e);
    }
