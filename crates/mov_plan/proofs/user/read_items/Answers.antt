use Rattle.std.proofs.Common.{arith, ap, sym, subst, ◌∙◌, ◌≡◌, List, ℕ, take, drop}
use Rattle.std.specs.declared.option.Option.TheVariants.{Some}
use Rattle.container_model.specs.Chunk.{Run}
use Rattle.container_model.specs.Sizes.{user}
use Rattle.qt_atoms.specs.Walk.{Stepped, atom_in, level_of, row}
use Rattle.qt_atoms.specs.declared.header.Parent.{Parent}
use Rattle.mov_plan.specs.Users.{chunk_of}
use Rattle.mov_plan.specs.declared.user.UserItem.{UserItem}
use Rattle.mov_plan.proofs.Items.{items_more}
use Rattle.mov_plan.proofs.user.read_items.Goals as goal

pub atoms-preserved : goal.atoms-preserved
atoms-preserved c =
    let inv = c.atoms.invariant in
    let at = c.atoms.walker.at in
    let end = c.atoms.walker.end in
    let body = c.args.body.now in
    let k = c.in-Ok-Some.atom in
    let step : Stepped user body at end (Some k) = subst (λ (p : Parent). Stepped (level_of p) body at end (Some k)) inv.parent (rw c.in-Ok-Some.field-0-is at c.in-Ok-Some.ensures.row) in
    let moved : c.next_in.new.self.at ≡ k.next = rw c.in-Ok-Some.field-0-is at c.in-Ok-Some.ensures.moved in
    let item : UserItem = record { form = k.form; kind = k.kind; body = c.in_ok-raw.raw } in
    let same : chunk_of item ≡ atom_in body k = ap (λ (x : List ℕ). chunk_of (record { form = k.form; kind = k.kind; body = x })) (c.in_ok-raw.ensures ∙ ap (λ (n : ℕ). take n (drop k.body.at body)) (omega arith)) in
    rw (moved, c.next_in.ensures.end, c.next_in.ensures.parent) (record {
      end = inv.end;
      parent = inv.parent;
      items = items_more c.atoms.items.items c.push.new.self.items item (atom_in body k) (row user body at end) (row user body k.next end) _ c.in-Ok.ensures.items same step.0 inv.items;
      left = ap (λ (r : Run). r.left) (sym step.0) ∙ inv.left;
    })
