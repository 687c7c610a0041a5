-- The spans of an edit, with that of the form's size before them.
use Rattle.std.proofs.Common.{◌≡◌, ◌∙◌, ℕ, ◌≤◌, ◌<◌, Bool, true, false, cond, eqb, List, [], ◌∷◌, ◌++◌, Option, Some, None, sym, ap, arith}
use Rattle.std.proofs.lemmas.Bool.{le-leb, lt-leb}
use Rattle.part_tree.specs.Large.{Size, limited}
use Rattle.part_tree.specs.declared.plan.PlanFault.{PlanFault}
use Rattle.part_tree.specs.declared.plan.PlanFault.TheVariants.{TooLarge, Depot, Memory}
use Rattle.container_model.specs.Tests.{or_else}
use Rattle.unit_plan.specs.Cuts.{SpansAscend}
use Rattle.unit_plan.specs.Sized.{size_at}
use Rattle.unit_plan.specs.declared.cut.CutAt.{CutAt}
use Rattle.avi_plan.specs.Changes.{TellsFault}
use Rattle.avi_plan.specs.Form.{sizes}
use Rattle.avi_plan.specs.Planned.{too_long}
use Rattle.avi_plan.specs.declared.form.FormAt.{FormAt}

pub spans_low : (p q end : ℕ) (ks : List CutAt) → p ≤ q → SpansAscend q ks end → SpansAscend p ks end
spans_low p q end [] le h = omega (arith, le, h)
spans_low p q end (k ∷ ks) le h = (omega (arith, le, h.0), h.1, h.2)

pub sizes_ascend : (f : FormAt) (n end : ℕ) (edits : List CutAt) → SpansAscend 8 edits end → SpansAscend 0 (sizes f n ++ edits) end
sizes_ascend f n end edits h = go (eqb n f.size)
  where
    go : (t : Bool) → SpansAscend 0 (cond t [] (size_at false n ∷ []) ++ edits) end
    go true = spans_low 0 8 end edits (omega arith) h
    go false = (omega arith, omega arith, h)

-- ---- what is too large

pub fault_or : (s t : Option Size) (fault : PlanFault) → TellsFault s fault → TellsFault (or_else s t) fault
fault_or s t (TooLarge size limit) h = ap (λ (o : Option Size). or_else o t) h
fault_or s t Depot h = tt
fault_or s t Memory h = tt

pub too_long_is : (n m : ℕ) → m ≡ n → 9223372036854775807 < m → too_long n ≡ Some (limited 9223372036854775807 m)
too_long_is n m e high =
    ap (λ (t : Bool). cond {A = Option Size} t None (Some (limited 9223372036854775807 n))) (lt-leb n 9223372036854775807 (omega (arith, e, high)))
    ∙ ap (λ (k : ℕ). Some (limited 9223372036854775807 k)) (sym e)

pub not_too_long : (n m : ℕ) → m ≡ n → m ≤ 9223372036854775807 → too_long n ≡ None
not_too_long n m e low = ap (λ (t : Bool). cond {A = Option Size} t None (Some (limited 9223372036854775807 n))) (le-leb n 9223372036854775807 (omega (arith, e, low)))
