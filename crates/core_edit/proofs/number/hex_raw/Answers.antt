use Rattle.std.proofs.Common.{◌≡◌, ◌/◌, ℕ, sym, ◌∙◌, ap, arith, take, Some}
use Rattle.std.proofs.lemmas.Bool.{cond-true}
use Rattle.std.proofs.lemmas.List.{length-set}
use Rattle.field_model.specs.Numbers.{hex_bytes, is_hex}
use Rattle.core_edit.proofs.Hex.{hex_step, hex_end}
use Rattle.core_edit.proofs.number.hex_raw.Goals as goal

pub loop-i-preserved : goal.loop-i-preserved
loop-i-preserved c =
    let so_far = c.loop-i.invariant in
    record {
      so_far = hex_step c.args.text.now c.loop-i.bytes _ c.loop-i.i _ (omega (arith, so_far.long, c.loop-i-test.true)) (omega (arith, so_far.room, c.requires, c.loop-i-test.true))
          (omega (arith, c.digit.ensures.value, c.digit-in-loop-i.ensures.value)) so_far.so_far;
      long = so_far.long;
      room = length-set c.loop-i.bytes c.loop-i.i _ ∙ so_far.room;
      digits = so_far.digits;
    }

pub returns : goal.returns
returns c =
    let so_far = c.loop-i.invariant in
    let end : c.args.len / 2 ≡ c.loop-i.i = omega (arith, c.loop-i-test.false, c.loop-i.auto.i-end) in
    let all : c.of.result ≡ hex_bytes c.args.text.now = c.of.ensures ∙ ap (λ (k : ℕ). take k c.loop-i.bytes) end ∙ hex_end c.args.text.now c.loop-i.bytes _ c.loop-i.i (omega (arith, so_far.long, end)) so_far.so_far in
    ap Some all ∙ sym (cond-true (is_hex c.args.len c.args.text.now) _ _ (sym c.if-not-is_hex.ensures.hex))
