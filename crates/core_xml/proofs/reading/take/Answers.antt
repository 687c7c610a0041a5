use Rattle.std.proofs.Common.{rules, ℕ, List, ◌≡◌, ◌||◌, Bool, Err, true, false, ap, not, ◌∙◌}
use Rattle.std.specs.Prelude.{is_none}
use Rattle.std.specs.Str.{bytes_eq}
use Rattle.part_tree.specs.declared.field.EditItem.{EditItem}
use Rattle.field_model.specs.Texts.{field_name}
use Rattle.core_table.specs.Sets.{has}
use Rattle.core_table.specs.declared.fault.TableFault.TheVariants.{Memory}
use Rattle.core_xml.specs.Table.{item, kept, take}
use Rattle.core_xml.proofs.Steps.{out_of_memory, taken, taken_not}
use Rattle.core_xml.proofs.reading.take.Goals as goal

pub returns-in_err-add : goal.returns-in_err-add
returns-in_err-add c =
    let none : c.from_residual.result ≡ Err Memory = search rules in
    out_of_memory (take c.args.reading c.args.n c.args.said) _ none

pub returns-in_err-keep : goal.returns-in_err-keep
returns-in_err-keep c =
    let none : c.from_residual-in_err-keep.result ≡ Err Memory = search rules in
    out_of_memory (take c.args.reading c.args.n c.args.said) _ none

was : (added there : Bool) → added ≡ not there → added ≡ false → there ≡ true
was added true is h = cc
was added false is h = absurd cc

wasn't : (added there : Bool) → added ≡ not there → added ≡ true → there ≡ false
wasn't added true is h = absurd cc
wasn't added false is h = cc

pub returns-then-not-branch : goal.returns-then-not-branch
returns-then-not-branch c =
    let none : is_none (field_name c.args.said.name) ≡ false = search rules in
    let not_added : c.in_ok-add.field-0 ≡ false = search rules in
    let added : c.in_ok-add.field-0 ≡ not (has c.args.reading.seen c.args.said.name) = search rules in
    taken_not c.args.reading c.args.n c.args.said (ap (λ (t : Bool). t || has c.args.reading.seen c.args.said.name) none ∙ was _ _ added not_added)

pub returns : goal.returns
returns c =
    let none : is_none (field_name c.args.said.name) ≡ false = search rules in
    let is_added : c.in_ok-add.field-0 ≡ true = search rules in
    let added : c.in_ok-add.field-0 ≡ not (has c.args.reading.seen c.args.said.name) = search rules in
    let items : c.keep.new.items ≡ kept c.args.reading.own c.args.reading.items (item (field_name c.args.said.name) c.args.said.change) = search rules in
    let names : (other : List ℕ) → has c.add.new.self other ≡ (bytes_eq other c.args.said.name || has c.args.reading.seen other) = search rules in
    taken c.args.reading (record c.args.reading { seen = c.add.new.self; items = c.keep.new.items }) c.args.n c.args.said
    (ap (λ (t : Bool). t || has c.args.reading.seen c.args.said.name) none ∙ wasn't _ _ added is_added)
    (ap (λ (xs : List EditItem). record c.args.reading { seen = c.add.new.self; items = xs }) items) names
