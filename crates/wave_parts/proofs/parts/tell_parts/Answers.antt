use Rattle.std.proofs.Common.{◌≡◌, ◌∙◌, ◌++◌, List, [], sym, ap, subst, arith}
use Rattle.std.specs.List.{AllByRecursion}
use Rattle.part_tree.specs.declared.part.Part.{Part}
use Rattle.wave_model.specs.Wave.{wave_of}
use Rattle.wave_file.specs.Map.{Ascend}
use Rattle.wave_parts.specs.Opened.{PartEnds, end_after, opened_parts}
use Rattle.wave_parts.proofs.Whole.{all_told, last_end, left_ends, map_ends, tail_begins, tail_ends}
use Rattle.wave_parts.proofs.parts.tell_parts.Goals as goal

pub returns-in-Err-clause-why : goal.returns-in-Err-clause-why
returns-in-Err-clause-why g c b bytes holds =
    c.in-Err.ensures.why b holds (subst (AllByRecursion (PartEnds b)) (sym c.deref.ensures.value) (map_ends b c.args.map.now bytes (c.requires.mapped b holds)))

pub put_rests-requires-clause-order : goal.put_rests-requires-clause-order
put_rests-requires-clause-order g c =
    let end = c.args.map.now.form_end in
    let last = last_end 12 end c.deref.result.now (subst (λ (ps : List Part). Ascend 12 ps end) (sym c.deref.ensures.value) (c.requires.sound).parts_ascend) in
    omega (arith, c.in-Ok.ensures.place, last)

pub returns-in-Ok-put_rests-clause-parts : goal.returns-in-Ok-put_rests-clause-parts
returns-in-Ok-put_rests-clause-parts g c b bytes holds =
    let m = c.args.map.now in
    let is = c.requires.mapped b holds in
    let value = c.deref.ensures.value in
    let ends = subst (AllByRecursion (PartEnds b)) (sym value) (map_ends b m bytes is) in
    let place : c.in-Ok.at ≡ end_after 12 m.parts.items = c.in-Ok.ensures.place ∙ ap (end_after 12) value in
    let one : c.put_parts.new.parts.items ≡ [] ++ opened_parts b m.parts.items =
    c.in-Ok.ensures.parts b holds ends ∙ ap (λ (x : List Part). x ++ opened_parts b c.deref.result.now) c.new-parts.ensures.items ∙ ap (opened_parts b) value
    in
    all_told b m bytes is c.put_parts.new.parts.items c.put_rests.new.parts.items c.in-Ok.at one place
    (c.in-Ok-put_rests.ensures.rests (wave_of b).left (wave_of b).tail _ (left_ends b m bytes is c.in-Ok.at place) (tail_begins b m bytes is) (tail_ends b m bytes is))
