use Rattle.std.proofs.Common.{arith, ap, sym, ◌≡◌, ◌∙◌, ◌+◌, ◌∷◌, ◌++◌, ℕ, List, length, map, drop}
use Rattle.container_model.specs.Splice.{splice_from}
use Rattle.mov_plan.specs.Made.{IsNamed, made_of}
use Rattle.mov_plan.specs.Tables.{table_in, tables_up_to}
use Rattle.mov_plan.specs.declared.tables.TableAt.{TableAt}
use Rattle.mov_plan.proofs.Made.{named_at, one_more, table_of, table_read, up_to_more}
use Rattle.mov_plan.proofs.tables.Rewritten.push_tables.Goals as goal

pub tables-preserved : goal.tables-preserved
tables-preserved c =
    let ts = c.args.tables.now in
    let w = c.args.widened in
    let p = c.args.place in
    let i = c.tables.next in
    let t = table_of ts i in
    let lt = c.tables-test.true in
    let read : t ≡ Rattle.std.proofs.Common.get_or ts i t = table_read ts i lt in
    let old = c.tables.self in
    let new = c.push_table.new.self in
    let inv = c.tables.invariant in
    let more : tables_up_to p (drop i ts) ≡ t ∷ tables_up_to p (drop (i + 1) ts) = up_to_more p ts i t lt read c.if-table-place.false in
    record {
      inside = omega (arith, lt);
      order = omega (arith, inv.order, c.in_ok-push_table.ensures.order, c.in_ok-push_table.ensures.at);
      next = omega (arith, ap (λ (us : List TableAt). length us) more, inv.next);
      bytes = λ ms b rest.
          one_more b old.at new.at (table_in w ms b t) (made_of ms b old) (made_of ms b new) (map (table_in w ms b) (tables_up_to p (drop (i + 1) ts)) ++ rest)
          c.in_ok-push_table.ensures.order c.in_ok-push_table.ensures.at (c.in_ok-push_table.ensures.bytes ms b)
          ∙ ap (λ (us : List TableAt). made_of ms b old ++ splice_from old.at (drop old.at b) (map (table_in w ms b) us ++ rest)) (sym more)
          ∙ inv.bytes ms b rest;
      sound = λ b inside made. c.in_ok-push_table.ensures.sound b inside (inv.sound b (omega (arith, inside, c.in_ok-push_table.ensures.order, c.in_ok-push_table.ensures.at)) made);
      named = λ ms b all h. c.in_ok-push_table.ensures.named ms b (named_at (IsNamed w ms b) ts i t lt read all) (inv.named ms b all h);
    }
