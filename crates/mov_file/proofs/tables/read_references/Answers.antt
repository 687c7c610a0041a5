use Rattle.std.proofs.Common.{arith, refl, sym, ap, ◌≡◌, ◌∙◌, ◌+◌, ◌-◌, ◌≤◌, ℕ, List, length}
use Rattle.std.specs.Prelude.{◌&&◌, ◌%◌, nat_eq}
use Rattle.me_disk.proofs.Holds.{holds_on}
use Rattle.me_disk.proofs.Runs.{ReadsOnly-trans}
use Rattle.container_model.specs.Windows.{window}
use Rattle.container_model.specs.Written.{slice}
use Rattle.container_model.proofs.Windows.{length-window}
use Rattle.sample_tables.specs.Tables.{entries_local, entries_whole}
use Rattle.mov_file.proofs.Heads.{entries_at, flags_there, local_step, number_known, reference_short, size_there, whole_cut, whole_past, whole_small, whole_step, window_behind}
use Rattle.mov_file.proofs.tables.read_references.Goals as goal

pub entries-init : goal.entries-init
entries-init g c =
    let at = c.args.body.at in
    let n = c.args.body.len in
    record {
      end = refl;
      place = omega arith;
      reads = c.read_number.ensures.reads;
      whole = λ b holds. ap (entries_whole c.in_ok-count.count) (entries_at b at n (c.requires.inside b holds) (omega arith)) ∙ ap (λ (i : ℕ). entries_whole i (window b (at + 8) (at + n))) (omega arith);
      local = λ b holds. ap (entries_local c.in_ok-count.count) (entries_at b at n (c.requires.inside b holds) (omega arith)) ∙ ap (λ (i : ℕ). entries_local i (window b (at + 8) (at + n))) (omega arith);
      is_count = λ b holds. number_known b at n 4 c.in_ok-count.count (omega arith) (c.in_ok-count.ensures.number b holds);
    }

pub returns-then-end-at-lt12-clause-references : goal.returns-then-end-at-lt12-clause-references
returns-then-end-at-lt12-clause-references g c = λ b holds.
    let before = c.entries.invariant in
    let end = c.args.body.at + c.args.body.len in
    let w = window b c.entries.at end in
    let fits : end ≤ length b = c.requires.inside b holds in
    reference_short c.args.kind.0 (slice b c.args.body.at c.args.body.len) c.in_ok-count.count (sym c.if-not-is.ensures.is) (before.is_count b holds)
    (before.whole b holds ∙ whole_cut (c.in_ok-count.count - c.entries._entry) w (omega arith) (omega (arith, length-window b c.entries.at end fits)))

pub returns-then-size-lt12-clause-references : goal.returns-then-size-lt12-clause-references
returns-then-size-lt12-clause-references g c = λ b holds.
    let before = c.entries.invariant in
    let end = c.args.body.at + c.args.body.len in
    let w = window b c.entries.at end in
    let held = holds_on _ _ b before.reads holds in
    reference_short c.args.kind.0 (slice b c.args.body.at c.args.body.len) c.in_ok-count.count (sym c.if-not-is.ensures.is) (before.is_count b holds)
    (before.whole b holds ∙ whole_small (c.in_ok-count.count - c.entries._entry) c.from-size.result w (omega arith) (size_there b c.entries.at end c.from-size.result (omega arith) (c.from-size.ensures ∙ c.in_ok-read_number.ensures.number b held)) (omega arith))

pub returns-then-size-end-clause-references : goal.returns-then-size-end-clause-references
returns-then-size-end-clause-references g c = λ b holds.
    let before = c.entries.invariant in
    let end = c.args.body.at + c.args.body.len in
    let w = window b c.entries.at end in
    let held = holds_on _ _ b before.reads holds in
    let fits : end ≤ length b = c.requires.inside b holds in
    reference_short c.args.kind.0 (slice b c.args.body.at c.args.body.len) c.in_ok-count.count (sym c.if-not-is.ensures.is) (before.is_count b holds)
    (before.whole b holds ∙ whole_past (c.in_ok-count.count - c.entries._entry) c.from-size.result w (omega arith) (size_there b c.entries.at end c.from-size.result (omega arith) (c.from-size.ensures ∙ c.in_ok-read_number.ensures.number b held)) (omega (arith, length-window b c.entries.at end fits)))

pub entries-preserved : goal.entries-preserved
entries-preserved g c =
    let before = c.entries.invariant in
    let at = c.entries.at in
    let end = c.args.body.at + c.args.body.len in
    let k = c.in_ok-count.count - c.entries._entry in
    let n = c.from-size.result in
    let less : k - 1 ≡ c.in_ok-count.count - (c.entries._entry + 1) = omega arith in
    record {
      end = refl;
      place = omega arith;
      reads = ReadsOnly-trans _ _ _ (ReadsOnly-trans _ _ _ before.reads c.read_number-in-entries.ensures.reads) c.read_number-in-entries-2.ensures.reads;
      whole = λ b holds.
          let held = holds_on _ _ b before.reads holds in
          let fits : end ≤ length b = c.requires.inside b holds in
          before.whole b holds
          ∙ whole_step k n (window b at end) (omega arith) (size_there b at end n (omega arith) (c.from-size.ensures ∙ c.in_ok-read_number.ensures.number b held)) (omega arith) (omega (arith, length-window b at end fits))
          ∙ ap (entries_whole (k - 1)) (window_behind b at end n fits (omega arith)) ∙ ap (λ (i : ℕ). entries_whole i (window b (at + n) end)) less;
      local = λ b holds.
          let held = holds_on _ _ b before.reads holds in
          let then = holds_on _ _ b c.read_number-in-entries.ensures.reads held in
          let fits : end ≤ length b = c.requires.inside b holds in
          before.local b holds
          ∙ local_step k n c.in_ok-flags.flags (window b at end) c.entries.local (omega arith) (size_there b at end n (omega arith) (c.from-size.ensures ∙ c.in_ok-read_number.ensures.number b held)) (flags_there b at end c.in_ok-flags.flags fits (omega arith) (c.in_ok-flags.ensures.number b then))
          ∙ ap (λ (x : List ℕ). (c.entries.local && nat_eq (c.in_ok-flags.flags % 2) 1) && entries_local (k - 1) x) (window_behind b at end n fits (omega arith))
          ∙ ap (λ (i : ℕ). (c.entries.local && nat_eq (c.in_ok-flags.flags % 2) 1) && entries_local i (window b (at + n) end)) less;
      is_count = before.is_count;
    }
