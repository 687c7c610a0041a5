use Rattle.std.proofs.Common.{true, arith, ap, sym, ◌≡◌, ◌∙◌, ◌+◌, ◌∷◌, ◌++◌, ℕ, List, length, map, drop}
use Rattle.carrier_model.specs.Gaps.{between}
use Rattle.mov_plan.specs.Tables.{LiesIn, table_in, tables_up_to}
use Rattle.mov_plan.specs.declared.tables.TableAt.{TableAt}
use Rattle.mov_plan.proofs.Made.{named_at, table_of, table_read, up_to_more}
use Rattle.mov_plan.proofs.moves.Ranges.jump_tables.Goals as goal

pub tables-preserved : goal.tables-preserved
tables-preserved c =
    let ts = c.args.tables.now in
    let p = c.args.place in
    let i = c.tables.next in
    let t = table_of ts i in
    let lt = c.tables-test.true in
    let read : t ≡ Rattle.std.proofs.Common.get_or ts i t = table_read ts i lt in
    let old = c.tables.self in
    let inv = c.tables.invariant in
    let more : tables_up_to p (drop i ts) ≡ t ∷ tables_up_to p (drop (i + 1) ts) = up_to_more p ts i t lt read c.if-table-place.false in
    record {
      inside = omega (arith, lt);
      next = omega (arith, ap (λ (us : List TableAt). length us) more, inv.next);
      held = λ ms b rest end all.
          c.in_ok-jump_table.ensures.held ms b (map (table_in true ms b) (tables_up_to p (drop (i + 1) ts)) ++ rest) end (named_at (LiesIn b) ts i t lt read all)
          ∙ ap (λ (us : List TableAt). old.held.items ++ between old.at old.to (map (table_in true ms b) us ++ rest) end) (sym more)
          ∙ inv.held ms b rest end all;
      sound = λ h. c.in_ok-jump_table.ensures.sound (inv.sound h);
    }
