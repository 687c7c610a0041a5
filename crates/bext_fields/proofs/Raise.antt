-- A raise, a step at a time.
use Rattle.std.proofs.Common.{◌≡◌, ℕ, ◌<◌, List, sym, ap, ◌∙◌, nat_le, ◌==◌, if◌then◌else◌}
use Rattle.std.proofs.lemmas.Bool.{cond-false, lt-leb}
use Rattle.me_bytes.specs.Bytes.{le_bytes}
use Rattle.field_model.specs.Bext.{raised, version, without_loudness, without_umid, lay_range}

-- the UMID, then the loudness fields, then the version
pub raise_done : (body first second raw : List ℕ) (to : ℕ) → version body < to
    → first ≡ (if version body == 0 then without_umid body else body)
    → second ≡ (if to == 2 then without_loudness first else first) → raw ≡ le_bytes 2 to
    → lay_range 6 raw second ≡ raised to body
raise_done body first second raw to lt one two three =
    ap (λ (xs : List ℕ). lay_range 6 xs second) three
    ∙ ap (lay_range 6 (le_bytes 2 to)) (two ∙ ap (λ (xs : List ℕ). if to == 2 then without_loudness xs else xs) one)
    ∙ sym (cond-false (nat_le to (version body)) _ _ (lt-leb to (version body) lt))
