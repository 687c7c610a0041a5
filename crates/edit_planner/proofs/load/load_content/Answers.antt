use Rattle.std.proofs.Common.{◌≡◌, ◌∙◌, sym, ap}
use Rattle.part_tree.specs.declared.part.Part.{Part}
use Rattle.part_tree.specs.declared.part.Role.{Role}
use Rattle.edit_planner.specs.declared.cells.Content.TheVariants.{Body, Kept, Listed}
use Rattle.edit_planner.specs.Cells.{list_in}
use Rattle.edit_planner.specs.Stand.{held_by}
use Rattle.edit_planner.proofs.Stands.{body_is, by_other, if_ok}
use Rattle.edit_planner.proofs.load.load_content.Goals as goal

pub returns-in-Info-clause-content : goal.returns-in-Info-clause-content
returns-in-Info-clause-content g c = λ b holds role at d e s.
    let is = ap (λ (r : Role). held_by r d) (sym (ap (λ (p : Part). p.role) e) ∙ c.in-Info.is) in
    if_ok (λ x. x ≡ Listed (list_in d)) (λ x. x ≡ held_by role d) c.load_list.result (λ x h. h ∙ sym is) (c.load_list.ensures.content b holds d (body_is b at d c.args.part.now role e s))

pub returns-in-Bext-clause-content : goal.returns-in-Bext-clause-content
returns-in-Bext-clause-content g c = λ b holds role at d e s.
    let is = ap (λ (r : Role). held_by r d) (sym (ap (λ (p : Part). p.role) e) ∙ c.in-Bext.is) in
    if_ok (λ x. x ≡ Body _) (λ x. x ≡ held_by role d) c.load_bext.result (λ x h. h ∙ ap Body (sym (body_is b at d c.args.part.now role e s)) ∙ sym is) (c.load_bext.ensures.content b holds)

pub returns-in-Padding-clause-content : goal.returns-in-Padding-clause-content
returns-in-Padding-clause-content g c = λ b holds role at d e s. sym (ap (λ (r : Role). held_by r d) (sym (ap (λ (p : Part). p.role) e) ∙ c.in-Padding.is))

pub returns-in_default-clause-content : goal.returns-in_default-clause-content
returns-in_default-clause-content g c = λ b holds role at d e s.
    ap (λ (p : Part). Kept p.id p.role) e ∙ sym (by_other d role (λ i. c.in_default.not-Info (ap (λ (p : Part). p.role) e ∙ i)) (λ i. c.in_default.not-Bext (ap (λ (p : Part). p.role) e ∙ i)) (λ i. c.in_default.not-Padding (ap (λ (p : Part). p.role) e ∙ i)))
