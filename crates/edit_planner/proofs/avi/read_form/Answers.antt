use Rattle.std.proofs.Common.{◌≡◌, ◌∙◌, ◌<◌, ap, arith, false, length, refl, subst, sym, List}
use Rattle.std.specs.Prelude.{IfSome, Option}
use Rattle.part_tree.specs.declared.part.Part.{Part}
use Rattle.edit_planner.specs.Tops.{StandsIn, others, tops}
use Rattle.edit_planner.specs.declared.head.Head.{Head}
use Rattle.edit_planner.proofs.AviForms.{form_told}
use Rattle.edit_planner.proofs.avi.read_form.Goals as goal

pub overflow_add-size : goal.overflow_add-size
overflow_add-size g c = let f = c.in-Some.ensures.sound c.requires.sound.small 0 in omega (arith, f.inside, f.small)

pub tops_of-requires : goal.tops_of-requires
tops_of-requires g c = let f = c.in-Some.ensures.sound c.requires.sound.small 0 in omega (arith, f.low)

pub head_of-requires-clause-inside : goal.head_of-requires-clause-inside
head_of-requires-clause-inside g c = λ b holds.
    let f = c.in-Some.ensures.sound c.requires.sound.small 0 in
    omega (arith, c.in-Ok.ensures.end, f.inside, (c.requires.mapped b holds).len)

pub head_of-requires-clause-small : goal.head_of-requires-clause-small
head_of-requires-clause-small g c =
    let f = c.in-Some.ensures.sound c.requires.sound.small 0 in
    omega (arith, c.in-Ok.ensures.end, f.inside, f.small)

pub returns-clause-tells : goal.returns-clause-tells
returns-clause-tells g c = λ b holds.
    form_told b c.args.map.now c.in-Some.size c.in-Ok.tops.parts.items c.in-Ok.tops.others _ (c.requires.mapped b holds) c.in-Some.ensures.size
    (c.in-Ok.ensures.tops ∙ ap (tops 12) c.deref.ensures.value) (c.in-Ok.ensures.others ∙ ap (λ (ps : List Part). others false 12 ps) c.deref.ensures.value) refl refl
    (λ role cs e s r. sym c.in-Ok-Some.field-0-is ∙ c.in-Ok-Some.ensures.head b holds role cs (c.deref-2.ensures.value ∙ e) s r)

pub returns-clause-sound : goal.returns-clause-sound
returns-clause-sound g c =
    let number = subst (λ (o : Option Head). IfSome o (λ h. h.number < length c.deref-2.result.now)) c.in-Ok-Some.field-0-is c.in-Ok-Some.ensures.number in
    record {
      form = c.in-Some.ensures.sound c.requires.sound.small c.in-Ok.tops.others;
      ascend = c.in-Ok.ensures.ascend;
      inside = c.in-Ok.ensures.end;
      number = subst (λ (ps : List Part). c.in-Ok-Some.head.number < length ps) c.deref-2.ensures.value number;
      head = subst (λ (o : Option Head). IfSome o (λ h. StandsIn 12 c.in-Ok.tops.at h)) c.in-Ok-Some.field-0-is c.in-Ok-Some.ensures.stands;
    }
