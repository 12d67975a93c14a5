use Rattle.std.proofs.Common.{cond, [], ◌∷◌, ◌++◌, sym, ap, ◌∙◌}
use Rattle.key_list.specs.Members.{keys_in}
use Rattle.key_list.proofs.Walks.{pushed_last, pushed_one}
use Rattle.key_list.proofs.key_list.KeyList.push_if.Goals as goal

pub returns-then-wanted : goal.returns-then-wanted
returns-then-wanted g c =
    let xs = keys_in c.args.self.now in
    let ys = keys_in c.push.new.self in
    record {
      now_keys =
          λ h. pushed_last xs ys c.args.key c.push.result c.push.ensures.room c.push.ensures.now_keys h
          ∙ sym (ap (λ t. cond t (xs ++ c.args.key ∷ []) xs) c.if-wanted.true);
      one_more = pushed_one xs ys c.args.key c.push.result c.push.ensures.room c.push.ensures.now_keys;
    }
