-- A table line by line: what each step leads to.
use Rattle.std.proofs.Common.{◌≡◌, ℕ, List, [], ◌∷◌, ◌++◌, Bool, true, false, ◌||◌, Result, Ok, Err, refl, sym, ap, ◌∙◌, inl, inr, subst}
use Rattle.std.specs.Prelude.{is_none, if◌then◌else◌}
use Rattle.std.specs.Str.{bytes_eq}
use Rattle.field_model.specs.Texts.{field_name}
use Rattle.core_table.specs.Answers.{Answers}
use Rattle.core_table.specs.Sets.{has}
use Rattle.core_table.specs.declared.fault.TableFault.{TableFault}
use Rattle.core_table.specs.declared.fault.TableFault.TheVariants.{Line, Memory}
use Rattle.core_table.proofs.Fresh.{has-append}
use Rattle.core_xml.specs.Table.{IsLike, LeadsTo, item, kept, take}
use Rattle.core_xml.specs.declared.line.FieldLine.{FieldLine}
use Rattle.core_xml.specs.declared.reading.Reading.{Reading}

pub same : (a : Reading) → IsLike a a
same a = record { fields = refl; names = λ t. refl }

-- want of memory
pub out_of_memory : (expected result : Result Reading TableFault) → result ≡ Err Memory → LeadsTo expected result
out_of_memory (Ok r) (Ok s) is = absurd cc
out_of_memory (Ok r) (Err e) is = cc
out_of_memory (Err f) (Ok s) is = absurd cc
out_of_memory (Err f) (Err e) is = inr cc

-- the same, or want of memory
pub answered : (expected result : Result Reading TableFault) → Answers expected result → LeadsTo expected result
answered expected result (inr memory) = out_of_memory expected result memory
answered expected result (inl is) = subst (λ (r : Result Reading TableFault). LeadsTo expected r) (sym is) (go expected)
  where
    go : (r : Result Reading TableFault) → LeadsTo r r
    go (Ok r) = same r
    go (Err f) = inl refl

-- a name that is no field's, or that the block has
pub taken_not : (r : Reading) (n : ℕ) (said : FieldLine) → (is_none (field_name said.name) || has r.seen said.name) ≡ true → LeadsTo (take r n said) (Err (Line n))
taken_not r n said bad = subst (λ (t : Result Reading TableFault). LeadsTo t (Err (Line n))) (sym stops) (inl refl)
  where
    stops : take r n said ≡ Err (Line n)
    stops = ap (λ (t : Bool). if t then Err (Line n) else Ok (record r { seen = r.seen ++ said.name ∷ []; items = kept r.own r.items (item (field_name said.name) said.change) })) bad

-- a name that a field has, and that is new
pub taken : (r new : Reading) (n : ℕ) (said : FieldLine) → (is_none (field_name said.name) || has r.seen said.name) ≡ false
    → new ≡ record r { seen = new.seen; items = kept r.own r.items (item (field_name said.name) said.change) }
    → ((other : List ℕ) → has new.seen other ≡ (bytes_eq other said.name || has r.seen other)) → LeadsTo (take r n said) (Ok new)
taken r new n said good is names = subst (λ (t : Result Reading TableFault). LeadsTo t (Ok new)) (sym goes) (record { fields = is; names = λ t. has-append r.seen said.name t ∙ sym (names t) })
  where
    goes : take r n said ≡ Ok (record r { seen = r.seen ++ said.name ∷ []; items = kept r.own r.items (item (field_name said.name) said.change) })
    goes = ap (λ (t : Bool). if t then Err (Line n) else Ok (record r { seen = r.seen ++ said.name ∷ []; items = kept r.own r.items (item (field_name said.name) said.change) })) good
