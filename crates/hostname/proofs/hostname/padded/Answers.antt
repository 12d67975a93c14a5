use Rattle.std.proofs.Common.{length, drop, replicate, ◌++◌, sym, ap, ◌∙◌}
use Rattle.std.proofs.Math.Seq.{drop-append_seam}
use Rattle.std.proofs.lemmas.List.{drop-replicate}
use Rattle.hostname.proofs.hostname.padded.Goals as goal

pub returns-clause-back : goal.returns-clause-back
returns-clause-back c =
    let front = c.copy_from_slice.new.self in
    let zeros = drop (length c.args.bytes.now) (replicate 253 0) in
    ap (λ bs. drop (length bs) (front ++ zeros)) (sym c.copy_from_slice.ensures.after)
    ∙ drop-append_seam front zeros
    ∙ drop-replicate (length c.args.bytes.now) 253 0
