use Rattle.std.proofs.Common.{◌≡◌, ◌∙◌, ◌+◌, ◌∷◌, ℕ, [], Some, ap, subst, drop}
use Rattle.part_tree.specs.Tables.{RowsNamed}
use Rattle.part_tree.specs.declared.table.TableForm.TheVariants as form
use Rattle.relocator.specs.Bases.{moved_base}
use Rattle.avi_plan.specs.Changes.{Tells, refused}
use Rattle.avi_plan.specs.declared.table.Change.TheVariants as change
use Rattle.avi_plan.proofs.Made.{ok_map}
use Rattle.avi_plan.proofs.renumber.push_standard.Goals as goal

pub returns-clause-named : goal.returns-clause-named
returns-clause-named g c b held =
    let ms = c.args.moves.now in
    let h = c.args.head.now in
    let is : c.new_base-base.result ≡ moved_base ms h.base (Some (h.base + c.args.offset)) = c.new_base-base.ensures ∙ ap (λ (k : ℕ). moved_base ms h.base (Some (h.base + k))) c.from.ensures in
    ok_map c.push_rows.result _ _
    (λ named.
    (tt, (subst (λ (base : ℕ). RowsNamed ms (form.Standard h base) h.used (drop (c.args.at + 24) b)) is (subst (λ (n : ℕ). RowsNamed ms (form.Standard h c.new_base-base.result) n (drop (c.args.at + 24) b)) c.from-2.ensures named), tt)))
    (c.push_rows.ensures.named b held)

pub returns-clause-large : goal.returns-clause-large
returns-clause-large g c b held =
    let ms = c.args.moves.now in
    let h = c.args.head.now in
    let is : c.new_base-base.result ≡ moved_base ms h.base (Some (h.base + c.args.offset)) = c.new_base-base.ensures ∙ ap (λ (k : ℕ). moved_base ms h.base (Some (h.base + k))) c.from.ensures in
    subst (λ (base : ℕ). Tells (refused ms b (change.Rows (form.Standard h base) (c.args.at + 24) h.used ∷ [])) c.push_rows.result) is
    (subst (λ (n : ℕ). Tells (refused ms b (change.Rows (form.Standard h c.new_base-base.result) (c.args.at + 24) n ∷ [])) c.push_rows.result) c.from-2.ensures (c.push_rows.ensures.large b held))
