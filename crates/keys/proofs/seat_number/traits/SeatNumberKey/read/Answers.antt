use Rattle.std.proofs.Common.{length, sym, ap, ◌∙◌}
use Rattle.std.specs.Int.Digits.{number_from_digits}
use Rattle.keys.specs.Forms.{seat_from, number_eight}
use Rattle.keys.proofs.seat_number.traits.SeatNumberKey.read.Goals as goal

pub returns : goal.returns
returns c =
    let read = c.in-Ok.ensures.1 in
    seat_from c.args.bytes.now _ read.long (λ i. (c.type_inv.bytes i).fits)
    (c.from_be_bytes.ensures ∙ sym (number_eight c.in-Ok.bytes (ap length read.same ∙ read.long)) ∙ ap (number_from_digits 256) read.same)
