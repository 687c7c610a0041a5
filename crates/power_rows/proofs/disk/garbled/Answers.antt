use Rattle.std.proofs.Common.{◌≡◌, ◌∙◌, ◌++◌, ◌∷◌, [], ℕ, List, Option, add-one, ap, get_or, rules, sym, take}
use Rattle.std.specs.Prelude.{slice_get}
use Rattle.power_rows.specs.Power.{garbled, kept_byte}
use Rattle.power_rows.proofs.Mixed.{copied_at, garbled_more}
use Rattle.power_rows.proofs.disk.garbled.Goals as goal

pub loop-k-preserved : goal.loop-k-preserved
loop-k-preserved c =
    let bytes = c.args.bytes.now in
    let other = c.args.other.now in
    let k = c.loop-k.k in
    let seen : c.copied.result ≡ slice_get other k = c.copied.ensures ∙ copied_at other k c.get.result c.get.ensures.lookup in
    let here : c.kept_byte.result ≡ kept_byte (get_or bytes k 0) (slice_get other k) = c.kept_byte.ensures ∙ ap (λ (o : Option ℕ). kept_byte (get_or bytes k 0) o) seen in
    let more : c.push.new.self.items ≡ c.loop-k.mixed.items ++ c.kept_byte.result ∷ [] = search rules in
    more
    ∙ (λ i. c.loop-k.invariant i ++ here i ∷ [])
    ∙ sym (garbled_more bytes other k 0 c.loop-k-test.true)
    ∙ ap (λ (n : ℕ). garbled (take n bytes) other) (sym (add-one k))
