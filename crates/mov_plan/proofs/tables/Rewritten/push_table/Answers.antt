use Rattle.std.proofs.Common.{rules, arith, ap, sym, subst, ◌∙◌, ◌≡◌, ◌++◌, ◌+◌, ◌-◌, ℕ, List, take, drop, append_assoc, append-nil}
use Rattle.part_tree.specs.Plans.{Inside, IsBased, Named, segment_bytes}
use Rattle.part_tree.specs.Tables.{relocated}
use Rattle.part_tree.specs.declared.plan.Segment.{Segment}
use Rattle.mov_plan.specs.Made.{made_of}
use Rattle.mov_plan.specs.Tables.{form_of, table_len, table_segment}
use Rattle.mov_plan.proofs.Made.{based_table, inside_table}
use Rattle.mov_plan.proofs.tables.Rewritten.push_table.Goals as goal

pub returns-then-table-eq0-clause-bytes : goal.returns-then-table-eq0-clause-bytes
returns-then-table-eq0-clause-bytes c = λ ms b.
    let t = c.args.table.now in
    let old = made_of ms b c.args.self.now in
    let copy = take (t.at - c.args.self.now.at) (drop c.args.self.now.at b) in
    c.in_ok-copy_to.ensures.bytes ms b
    ∙ ap (λ (x : List ℕ). old ++ x) (sym (append-nil copy))
    ∙ ap (λ (n : ℕ). old ++ (copy ++ relocated ms (form_of t.wide c.args.widened) n (drop t.at b))) (sym c.if-table-eq0.true)

pub returns-then-table-eq0-clause-named : goal.returns-then-table-eq0-clause-named
returns-then-table-eq0-clause-named c = λ ms b n h. c.in_ok-copy_to.ensures.named ms b h

pub returns-clause-bytes : goal.returns-clause-bytes
returns-clause-bytes c = λ ms b.
    let t = c.args.table.now in
    let old = made_of ms b c.args.self.now in
    let copy = take (t.at - c.args.self.now.at) (drop c.args.self.now.at b) in
    let rows = segment_bytes ms b (table_segment c.args.widened t) in
    c.in_ok-push.ensures.bytes ms b
    ∙ ap (λ (s : Segment). made_of ms b c.copy_to.new.self ++ segment_bytes ms b s) c.segment.ensures
    ∙ ap (λ (x : List ℕ). x ++ rows) (c.in_ok-copy_to.ensures.bytes ms b)
    ∙ append_assoc old copy rows

pub returns-clause-sound : goal.returns-clause-sound
returns-clause-sound c = λ b inside made.
    let t = c.args.table.now in
    let end : c.push.new.self.at ≡ t.at + table_len t = search rules in
    let first = c.in_ok-copy_to.ensures.sound b (omega (arith, inside, end)) made in
    let is = sym c.segment.ensures in
    c.in_ok-push.ensures.sound b (subst IsBased is (based_table t.wide c.args.widened t.at t.rows)) (subst (Inside b) is (inside_table b t.wide c.args.widened t.at t.rows (omega (arith, inside, end))))
    (record { total = first.total; based = first.based; inside = first.inside })

pub returns-clause-named : goal.returns-clause-named
returns-clause-named c = λ ms b n h. c.in_ok-push.ensures.named ms b (subst (Named ms b) (sym c.segment.ensures) n) (c.in_ok-copy_to.ensures.named ms b h)
