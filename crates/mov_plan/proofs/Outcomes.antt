-- What two parts of a row come to.
use Rattle.std.proofs.Common.{◌≡◌, ◌∙◌, ℕ, Bool, true, false, List, refl, ap, arith, append_assoc, append-nil}
use Rattle.std.specs.Prelude.{◌&&◌}
use Rattle.part_tree.specs.declared.plan.Patch.{Patch}
use Rattle.container_model.specs.Splice.{Cut}
use Rattle.mov_plan.specs.Rows.{Outcome, both, counts}

pub outcome_eq : (a b : Outcome) → a.cuts ≡ b.cuts → a.patches ≡ b.patches → a.fits ≡ b.fits → a.parts ≡ b.parts → a.inner ≡ b.inner → a ≡ b
outcome_eq a b p q r s t =
    ap (λ (x : List Cut). record { cuts = x; patches = a.patches; fits = a.fits; parts = a.parts; inner = a.inner }) p
    ∙ ap (λ (x : List Patch). record { cuts = b.cuts; patches = x; fits = a.fits; parts = a.parts; inner = a.inner }) q
    ∙ ap (λ (x : Bool). record { cuts = b.cuts; patches = b.patches; fits = x; parts = a.parts; inner = a.inner }) r
    ∙ ap (λ (x : ℕ). record { cuts = b.cuts; patches = b.patches; fits = b.fits; parts = x; inner = a.inner }) s
    ∙ ap (λ (x : ℕ). record { cuts = b.cuts; patches = b.patches; fits = b.fits; parts = b.parts; inner = x }) t

and_assoc : (a b c : Bool) → ((a && b) && c) ≡ (a && (b && c))
and_assoc true b c = refl
and_assoc false b c = refl

pub and_true : (a : Bool) → (a && true) ≡ a
and_true true = refl
and_true false = refl

pub both_assoc : (a b c : Outcome) → both (both a b) c ≡ both a (both b c)
both_assoc a b c =
    outcome_eq (both (both a b) c) (both a (both b c)) (append_assoc a.cuts b.cuts c.cuts) (append_assoc a.patches b.patches c.patches) (and_assoc a.fits b.fits c.fits) (omega arith) (omega arith)

pub both_nothing : (a : Outcome) → both a (counts 0 0) ≡ a
both_nothing a = outcome_eq (both a (counts 0 0)) a (append-nil a.cuts) (append-nil a.patches) (and_true a.fits) (omega arith) (omega arith)

pub both_none : (a : Outcome) → both (counts 0 0) a ≡ a
both_none a = outcome_eq (both (counts 0 0) a) a refl refl refl (omega arith) (omega arith)
