use Rattle.std.proofs.Common.{◌≡◌, ◌∙◌, ℕ, List, ◌++◌, false, refl, sym, ap, subst}
use Rattle.me_disk.specs.Disk.{bytes_of}
use Rattle.me_disk.specs.Memory.{Memory, memory_disk}
use Rattle.wave_model.proofs.Rows.{short_sound, supported_short}
use Rattle.wave_model.proofs.Why.{why_supported}
use Rattle.wave_plan.specs.Frame.{IsFormOf}
use Rattle.wave_plan.proofs.tests.planned.Goals as goal

short_form : IsFormOf short_sound (record { big = false; len = 48; end = 48 })
short_form = record { supported = why_supported short_sound supported_short; big = refl; len = refl; end = refl }

pub plan_row-requires-clause-form : goal.plan_row-requires-clause-form
plan_row-requires-clause-form c = λ b h.
    let file : bytes_of (memory_disk c.in-Ok.depot).slots.main ≡ short_sound =
    ap (λ (m : Memory). bytes_of (memory_disk m).slots.main) c.in-Ok.ensures ∙ c.in_ok-extend_from_slice.ensures.items ∙ ap (λ (xs : List ℕ). xs ++ short_sound) c.new-file.ensures.items
    in
    subst (λ (x : List ℕ). IsFormOf x (record { big = false; len = 48; end = 48 })) (sym file ∙ h.bytes) short_form
