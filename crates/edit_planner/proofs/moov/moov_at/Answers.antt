use Rattle.std.proofs.Common.{◌≡◌, ◌∙◌, ℕ, ◌+◌, eqb, List, length, drop, refl, sym, ap, arith}
use Rattle.part_tree.specs.Parts.{count_parts}
use Rattle.part_tree.specs.declared.part.Part.{Part}
use Rattle.edit_planner.specs.MoovMap.{gap_count, gap_end, joined_from, tops_in}
use Rattle.edit_planner.proofs.MoovStands.{gaps_high, gaps_last, gaps_low, moov_there, moov_told, place_is, slice_is}
use Rattle.edit_planner.proofs.moov.moov_at.Goals as goal

pub returns-clause-moov : goal.returns-clause-moov
returns-clause-moov c = λ b bytes known ends.
    let map = c.args.map.now in
    let ps = c.deref.result.now in
    let top = c.top_parts-top.result.now in
    let n = c.count_before-before.result in
    let is = slice_is map ps top n c.deref.ensures.value c.top_parts-top.ensures c.count_before-before.ensures.place in
    let place = place_is map ps top n c.deref.ensures.value c.top_parts-top.ensures c.count_before-before.ensures.place in
    let told = c.in-Some.ensures in
    moov_told b bytes map known c.args.end ends _
    (record {
      at = refl;
      form = refl;
      from = refl;
      end_is = refl;
      left = refl;
      goes_on = told.goes_on;
      gaps = told.gaps ∙ ap gap_count is;
      gap = told.gap ∙ ap (gap_end map.moov.next) is;
      last = told.last ∙ ap (λ (xs : List Part). eqb (gap_count xs) (length xs)) is;
      others_are = omega (arith, place, told.atoms ∙ ap (λ (xs : List Part). count_parts (drop (gap_count xs) xs)) is);
      len = refl;
    })

pub returns-then-before-top-clause-found : goal.returns-then-before-top-clause-found
returns-then-before-top-clause-found c = λ b bytes known same.
    let map = c.args.map.now in
    let top = c.top_parts-top.result.now in
    let n = c.count_before-before.result in
    let place = place_is map c.deref.result.now top n c.deref.ensures.value c.top_parts-top.ensures c.count_before-before.ensures.place in
    let tops : top ≡ tops_in map = c.top_parts-top.ensures ∙ ap (joined_from 0) c.deref.ensures.value in
    absurd (omega (arith, place, ap length tops, moov_there b bytes map known, c.if-before-top.true))

pub returns-in_default-clause-found : goal.returns-in_default-clause-found
returns-in_default-clause-found c = λ b bytes known same.
    let map = c.args.map.now in
    let ps = c.deref.result.now in
    let top = c.top_parts-top.result.now in
    let is = slice_is map ps top c.count_before-before.result c.deref.ensures.value c.top_parts-top.ensures c.count_before-before.ensures.place in
    let ends = ap (gap_end map.moov.next) is in
    c.behind_of.ensures.found (omega (arith, ends, gaps_low b bytes map known)) (omega (arith, ends, gaps_high b bytes map known)) (λ all. ends ∙ gaps_last b bytes map known (ap gap_count (sym is) ∙ all ∙ ap length is))
    c.in_default.is
