use Rattle.std.proofs.Common.{◌≡◌, ◌+◌, ◌-◌, true, length, sym, ◌∙◌, arith}
use Rattle.std.proofs.lemmas.List.Edits.{paste_all}
use Rattle.std.proofs.lemmas.Slice.{put_mid-paste}
use Rattle.std.proofs.lemmas.Bool.{cond-true, le-leb}
use Rattle.keys.specs.Form.{fits}
use Rattle.keys.proofs.bytes.put.Goals as goal

pub returns : goal.returns
returns c =
    let out = c.args.out.now in
    let at = c.args.at in
    let bytes = c.args.bytes.now in
    let n : length bytes ≡ at + length bytes - at = omega arith in
    let t : fits out at bytes ≡ true = le-leb (at + length bytes) (length out) (omega arith) in
    record {
      end = sym (cond-true _ _ _ t);
      after = put_mid-paste at (at + length bytes - at) out c.copy_from_slice.new.self bytes (length bytes) c.copy_from_slice.ensures.after n (omega arith) ∙ paste_all out at bytes (length bytes) (omega arith) ∙ sym (cond-true _ _ _ t);
    }
