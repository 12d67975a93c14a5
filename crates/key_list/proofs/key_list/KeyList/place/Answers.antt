use Rattle.std.proofs.Common.{None, ◌∙◌, arith}
use Rattle.key_list.proofs.Rows.{place_has}
use Rattle.key_list.proofs.key_list.KeyList.place.Goals as goal

pub returns-in_err-get : goal.returns-in_err-get
returns-in_err-get g c =
    c.from_residual.ensures ∙ c.in_err-get.ensures.lookup.4 (omega arith) None ∙ place_has c.args.self.now.keys c.args.index c.args.self.now.behind

pub returns : goal.returns
returns g c =
    c.in_ok-get.ensures.lookup.4 (omega arith) None ∙ place_has c.args.self.now.keys c.args.index c.args.self.now.behind
