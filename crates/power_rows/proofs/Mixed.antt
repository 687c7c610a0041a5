-- One byte more of a content that is garbled.
use Rattle.std.proofs.Common.{◌≡◌, ℕ, zero, suc, ◌<◌, List, [], ◌∷◌, ◌++◌, length, take, get_or, Option, Some, None, Bor, refl, sym, ap, arith}
use Rattle.std.specs.Prelude.{slice_get, option_copied}
use Rattle.std.specs.Slice.{IsItemAt}
use Rattle.std.proofs.lemmas.Option.{slice_get_past, slice_get_read}
use Rattle.power_rows.specs.Power.{garbled, kept_byte}

pub garbled_more : (bs other : List ℕ) (k d : ℕ) → k < length bs → garbled (take (suc k) bs) other ≡ garbled (take k bs) other ++ kept_byte (get_or bs k d) (slice_get other k) ∷ []
garbled_more [] other k d low = absurd (omega arith)
garbled_more (b ∷ bs) [] zero d low = refl
garbled_more (b ∷ bs) (c ∷ cs) zero d low = refl
garbled_more (b ∷ bs) [] (suc k) d low = ap (λ (xs : List ℕ). kept_byte b None ∷ xs) (garbled_more bs [] k d (omega arith))
garbled_more (b ∷ bs) (c ∷ cs) (suc k) d low = ap (λ (xs : List ℕ). kept_byte b (Some c) ∷ xs) (garbled_more bs cs k d (omega arith))

-- what a read of a place gives
pub copied_at : {X : Type 0} (xs : List X) (i : ℕ) (r : Option (Bor X)) → IsItemAt xs i r → option_copied r ≡ slice_get xs i
copied_at xs i None item = sym (slice_get_past xs i item.3)
copied_at xs i (Some x) item = sym (slice_get_read xs (length xs) i x.now refl item.3.0 item.1)
