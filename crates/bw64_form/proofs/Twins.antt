-- What is read of a BW64 file is said of its twin.
use Rattle.std.proofs.Common.{◌≡◌, ℕ, ◌<◌, Bool, true, false, List, length, take, Some, refl, sym, ap, ◌∙◌, arith}
use Rattle.std.specs.Prelude.{codes, Result}
use Rattle.std.specs.declared.result.Result.TheVariants.{Ok, Err}
use Rattle.std.proofs.lemmas.Bool.{cond-true, cond-false}
use Rattle.std.proofs.lemmas.List.{length-take}
use Rattle.part_tree.specs.declared.why.Why.{Why}
use Rattle.part_tree.specs.declared.why.Why.TheVariants.{UnknownKind}
use Rattle.part_tree.specs.declared.why.ReadFault.{ReadFault}
use Rattle.part_tree.specs.declared.why.ReadFault.TheVariants as read
use Rattle.field_model.specs.KindReads.{ReadsKind}
use Rattle.container_model.proofs.Items.{same_true}
use Rattle.wave_model.specs.Wave.{is_big}
use Rattle.wave_model.specs.Why.{why}
use Rattle.wave_model.proofs.Twin.{twin_why, twin_fields}
use Rattle.wave_file.specs.Map.{IsMapOf, ReadsWave}
use Rattle.wave_file.specs.declared.map.WaveMap.{WaveMap}
use Rattle.bw64_form.specs.Bw64.{is_bw64, why_bw64, bw64_kind, ReadsTwin}

-- a file that begins so has its sizes in ds64
big : (b : List ℕ) → is_bw64 b ≡ true → is_big (take 4 b) ≡ true
big b e = ap is_big (same_true (take 4 b) (codes "BW64") e)

pub other_kind : (b : List ℕ) → is_bw64 b ≡ false → why_bw64 b ≡ Some UnknownKind
other_kind b e = cond-false (is_bw64 b) (why b) (Some UnknownKind) e

pub short_other : (b : List ℕ) → length b < 4 → is_bw64 b ≡ false
short_other b h = go (is_bw64 b) refl
  where
    go : (t : Bool) → is_bw64 b ≡ t → t ≡ false
    go true e = absurd (omega (arith, h, ap length (same_true (take 4 b) (codes "BW64") e), length-take 4 b))
    go false e = refl

pub kind_read : (b : List ℕ) (r : Result WaveMap ReadFault) → is_bw64 b ≡ true → ReadsWave b r → ReadsKind bw64_kind IsMapOf b r
kind_read b (Ok m) e h = h
kind_read b (Err (read.Why w)) e h = cond-true (is_bw64 b) (why b) (Some UnknownKind) e ∙ h
kind_read b (Err read.Depot) e h = tt
kind_read b (Err read.Memory) e h = tt

pub twin_read : (b : List ℕ) (r : Result WaveMap ReadFault) → is_bw64 b ≡ true → ReadsWave b r → ReadsTwin b r
twin_read b (Ok m) e h = (twin_why b (big b e) ∙ h.supported, λ name. h.field_values name ∙ sym (twin_fields b name (big b e)))
twin_read b (Err (read.Why w)) e h = λ i. twin_why b (big b e) ∙ h
twin_read b (Err read.Depot) e h = tt
twin_read b (Err read.Memory) e h = tt

pub no_twin : (b : List ℕ) (w : Why) → is_bw64 b ≡ false → ReadsTwin b (Err (read.Why w))
no_twin b w e = λ i. absurd (apart (is_bw64 b) e i)
  where
    apart : (t : Bool) → t ≡ false → t ≡ true → ⊥
    apart true x y = absurd cc
    apart false x y = absurd cc
