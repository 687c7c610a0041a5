use Rattle.std.proofs.Common.{refl, arith, sym, ◌∙◌, ◌≡◌, true, false}
use Rattle.container_model.proofs.Windows.{length_slice}
use Rattle.riff_form.specs.Walk.{chunk_in}
use Rattle.wave_model.specs.Wave.{form_kind}
use Rattle.wave_model.specs.Fields.{is_info}
use Rattle.wave_file.proofs.Roles.{role_list, role_whole, role_bext, role_other, short_list, whole_holds, bext_holds, keeps_other}
use Rattle.wave_file.proofs.Listed.{list_own, none_added, whole_added, bext_added}
use Rattle.wave_file.proofs.fields.read_fields.Goals as goal

pub returns-then-chunk-lt4-clause-fields : goal.returns-then-chunk-lt4-clause-fields
returns-then-chunk-lt4-clause-fields g c = λ b holds wide role.
    let this = chunk_in b (form_kind wide) c.args.chunk.now in
    let long = length_slice b c.args.chunk.now.body.at c.args.chunk.now.body.len (c.requires.inside b holds) in
    let list : is_info this ≡ true = role_list this (sym role ∙ c.in-Info.is) in
    let none : is_info this ≡ false = short_list this (omega (arith, long, c.if-chunk-lt4.true)) in
    absurd cc

pub returns-else-chunk-lt4-clause-fields : goal.returns-else-chunk-lt4-clause-fields
returns-else-chunk-lt4-clause-fields g c = λ b holds wide role.
    let this = chunk_in b (form_kind wide) c.args.chunk.now in
    list_own b c.args.chunk.now wide c.args.chunk.now.at c.args.parts c.args.fields.now c.read_items.new.fields c.read_items.result (role_list this (sym role ∙ c.in-Info.is)) (c.read_items.ensures.items b holds)

pub returns-in-Ok-clause-fields : goal.returns-in-Ok-clause-fields
returns-in-Ok-clause-fields g c = λ b holds wide role.
    let this = chunk_in b (form_kind wide) c.args.chunk.now in
    whole_added this c.args.chunk.now.id c.args.chunk.now.at c.args.parts c.args.fields.now c.read_whole.new.fields (whole_holds this (role_whole this (sym role ∙ c.in-Whole.is))) refl c.requires.few (c.in-Ok.ensures.value b holds)

pub returns-in-Ok-read_bext-clause-fields : goal.returns-in-Ok-read_bext-clause-fields
returns-in-Ok-read_bext-clause-fields g c = λ b holds wide role.
    let this = chunk_in b (form_kind wide) c.args.chunk.now in
    bext_added this c.args.chunk.now.at c.args.parts c.args.fields.now c.read_bext.new.fields (bext_holds this (role_bext this (sym role ∙ c.in-Bext.is))) c.requires.few (c.in-Ok-read_bext.ensures.values b holds)

pub returns-in_default-clause-fields : goal.returns-in_default-clause-fields
returns-in_default-clause-fields g c = λ b holds wide role.
    let this = chunk_in b (form_kind wide) c.args.chunk.now in
    none_added this c.args.chunk.now.at c.args.parts c.args.fields.now (role_other this c.args.role role c.in_default.not-Info c.in_default.not-Whole c.in_default.not-Bext) c.requires.few

pub returns-in_default-clause-ranges : goal.returns-in_default-clause-ranges
returns-in_default-clause-ranges g c = keeps_other c.args.role c.args.fields.now c.in_default.not-Bext
