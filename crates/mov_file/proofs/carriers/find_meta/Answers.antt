use Rattle.std.proofs.Common.{arith, refl, sym, ap, subst, ◌≡◌, ◌∙◌, ◌+◌, ◌-◌, ◌≤◌, ℕ, List, length, Bool, true, false, Option}
use Rattle.std.specs.declared.option.Option.TheVariants.{Some, None}
use Rattle.me_disk.proofs.Holds.{holds_on}
use Rattle.me_disk.proofs.Runs.{ReadsOnly-trans}
use Rattle.container_model.specs.Chunk.{ends, spell}
use Rattle.container_model.specs.Sizes.{inside}
use Rattle.container_model.specs.Windows.{window}
use Rattle.mov_model.specs.Map.{Kid}
use Rattle.qt_atoms.specs.Walk.{InOrder, Stepped, atom_in, level_of}
use Rattle.qt_atoms.specs.declared.header.Parent.{Parent}
use Rattle.qt_atoms.proofs.Windows.{window_stays}
use Rattle.mov_model.specs.Keys.{is_meta}
use Rattle.mov_file.specs.Carriers.{IsTable, kids_in, table_of}
use Rattle.mov_file.specs.declared.carriers.Meta.{Meta}
use Rattle.mov_file.specs.Map.{first_that}
use Rattle.mov_file.proofs.Carried.{atom_told, kid_found, kid_passed, no_meta, some_meta}
use Rattle.mov_file.proofs.carriers.find_meta.Goals as goal

pub returns-in-Ok-Some-read_table-clause-meta : goal.returns-in-Ok-Some-read_table-clause-meta
returns-in-Ok-Some-read_table-clause-meta g c = λ b holds.
    let inv = c.kids.invariant in
    let held = holds_on _ _ b inv.reads holds in
    let later = holds_on _ _ b c.next.ensures.reads held in
    let start = c.args.span.at in
    let at = c.kids.walker.at in
    let end = c.kids.walker.end in
    let k = c.in-Ok-Some.atom in
    let this = atom_in b k in
    let meta : Meta = record { atom = k; table = c.in-Ok-Some-read_table.table } in
    let order : InOrder at end k = rw c.in-Ok-Some.field-0-is at c.in-Ok-Some.ensures.atom in
    let step : Stepped inside b at end (Some k) = subst (λ (x : Parent). Stepped (level_of x) b at end (Some k)) inv.parent (rw c.in-Ok-Some.field-0-is at (c.in-Ok-Some.ensures.row b held)) in
    let fits : end ≤ length b = omega (arith, inv.end, c.requires.inside b holds) in
    let told : Some c.in-Ok-Some-read_table.table ≡ table_of this = rw c.in-Ok-Some-read_table.field-0-is at (c.in-Ok-Some-read_table.ensures.table b later) in
    let is = some_meta this c.in-Ok-Some-read_table.table (sym told) in
    let found = kid_found is_meta b start at end k.next this step.0 step.1 is.0 (inv.left b holds) in
    subst (λ (e : ℕ). IsTable b (first_that is_meta (kids_in b start e)) (Some meta)) inv.end (subst (λ (o : Option Kid). IsTable b o (Some meta)) (sym found) (atom_told b at end k order fits step.1, is.1))

pub kids-preserved : goal.kids-preserved
kids-preserved g c =
    let inv = c.kids.invariant in
    let at = c.kids.walker.at in
    let end = c.kids.walker.end in
    let k = c.in-Ok-Some.atom in
    let order : InOrder at end k = rw c.in-Ok-Some.field-0-is at c.in-Ok-Some.ensures.atom in
    let moved : c.next.new.self.at ≡ k.next = rw c.in-Ok-Some.field-0-is at c.in-Ok-Some.ensures.moved in
    record {
      end = c.next.ensures.end ∙ inv.end;
      parent = c.next.ensures.parent ∙ inv.parent;
      low = omega (arith, moved, inv.low, order.body, order.behind);
      reads = ReadsOnly-trans _ _ _ (ReadsOnly-trans _ _ _ inv.reads c.next.ensures.reads) c.read_table.ensures.reads;
      window = window_stays (g.D.Depot.disk c.next.new.depot) (g.D.Depot.disk c.read_table.new.depot) c.next.new.self.window c.read_table.ensures.reads c.next.ensures.window;
      left = λ b holds.
          let held = holds_on _ _ b inv.reads holds in
          let later = holds_on _ _ b c.next.ensures.reads held in
          let this = atom_in b k in
          let step : Stepped inside b at end (Some k) = subst (λ (x : Parent). Stepped (level_of x) b at end (Some k)) inv.parent (rw c.in-Ok-Some.field-0-is at (c.in-Ok-Some.ensures.row b held)) in
          let told : None ≡ table_of this = rw c.in-Ok-None-read_table.field-0-is at (c.in-Ok-None-read_table.ensures.table b later) in
          rw (moved, c.next.ensures.end) (kid_passed is_meta b c.args.span.at at end k.next this step.0 step.1 (no_meta this (sym told)) (inv.left b holds));
    }
