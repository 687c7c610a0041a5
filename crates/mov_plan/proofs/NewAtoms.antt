-- A carrier that is made of a body after an edit is the one of the definitions.
use Rattle.std.proofs.Common.{◌≡◌, ◌∙◌, ◌≢◌, ◌≤◌, ◌<◌, ◌^◌, ℕ, zero, suc, ◌+◌, Bool, true, false, cond, List, [], ◌∷◌, ◌++◌, length, map, Option, Some, None, Result, refl, sym, ap, subst, arith, append-nil}
use Rattle.std.specs.Prelude.{IfErr, IfOk, codes}
use Rattle.std.specs.declared.result.Result.TheVariants.{Ok, Err}
use Rattle.std.specs.List.{AllByRecursion}
use Rattle.me_bytes.specs.Bytes.{IsBytes}
use Rattle.part_tree.specs.declared.field.Value.{Value}
use Rattle.carrier_model.specs.Lists.{sets_some}
use Rattle.container_model.specs.Atoms.{atom}
use Rattle.container_model.specs.Chunk.{Chunk, Run, chunks, ends, read, spell, spell_all}
use Rattle.container_model.specs.Items.{Item, edit_carrier, put_all}
use Rattle.container_model.specs.Walk.{nested}
use Rattle.mov_model.specs.Carried.{fresh}
use Rattle.mov_model.specs.Keys.{edit_meta, new_meta, new_table, table_in, table_or, with_keys}
use Rattle.container_model.proofs.Items.{same_true}
use Rattle.qt_atoms.specs.Walk.{atom_in, form_of}
use Rattle.qt_atoms.specs.declared.walker.AtomAt.{AtomAt}
use Rattle.qt_atoms.specs.declared.header.SizeForm.{SizeForm}
use Rattle.qt_atoms.specs.declared.header.SizeForm.TheVariants.{Short}
use Rattle.qt_keys.specs.Read.{IsRead, key_table}
use Rattle.qt_keys.specs.Table.{table_bytes}
use Rattle.qt_keys.specs.declared.table.KeyTable.{KeyTable}
use Rattle.qt_text.specs.User.{udta, user_items}
use Rattle.qt_text.proofs.User.{SetsUser, edited_again, fresh_again}
use Rattle.mov_plan.specs.Carriers.{IsFresh, IsMade}
use Rattle.mov_plan.specs.Carry.{IsNew}
use Rattle.mov_plan.specs.Shapes.{atoms_by, atoms_of}
use Rattle.mov_plan.specs.Users.{CanSet, IsEdited, changes_of, edited_body, edited_items, opened}
use Rattle.mov_plan.specs.declared.bodies.CarryFault.{CarryFault}
use Rattle.mov_plan.specs.declared.bodies.CarryFault.TheVariants.{Depot, Memory, TooLarge}
use Rattle.mov_plan.specs.declared.carry.NewAtom.{NewAtom}
use Rattle.mov_plan.specs.declared.user.UserBody.{UserBody}
use Rattle.mov_plan.specs.declared.user.UserChange.{UserChange}

-- an atom without a pad
abbrev pub plain : SizeForm → List ℕ → List ℕ → Chunk
plain form id body = record { form = form_of form; id = id; body = body; pad = [] }

-- ---- results

pub if_both : {T E : Type 0} (P Q R : T → Type 0) (r : Result T E) → ((x : T) → P x → Q x → R x) → IfOk r P → IfOk r Q → IfOk r R
if_both P Q R (Ok x) f p q = f x p q
if_both P Q R (Err e) f p q = tt

-- an atom that is made, or no memory
pub made_by : (c : Chunk) (made : Result NewAtom CarryFault) → IfOk made (λ now. IsMade c (Ok now)) → IfErr made (λ fault. fault ≡ Memory) → IsMade c made
made_by c (Ok now) ok err = ok
made_by c (Err fault) ok err = subst (λ (f : CarryFault). IsMade c (Err f)) (sym err) tt

pub fresh_ok : (new : Option Chunk) (c : Chunk) (now : NewAtom) → new ≡ Some c → IsMade c (Ok now) → IsFresh new (Ok (Some now))
fresh_ok new c now e m = (c, (e, m.0, m.1))

pub fresh_err : (new : Option Chunk) (c : Chunk) (fault : CarryFault) → new ≡ Some c → IsMade c (Err fault) → IsFresh new (Err fault)
fresh_err new c (TooLarge size) e m = (c, (e, m.0, m.1))
fresh_err new c Depot e m = tt
fresh_err new c Memory e m = tt

-- a failure that isn't the depot's
pub only_memory : {T : Type 0} (r : Result T CarryFault) → IfErr r (λ fault. fault ≡ Memory) → IfErr r (λ fault. fault ≢ Depot)
only_memory (Ok x) h = tt
only_memory (Err fault) h = λ d. let no : Memory ≡ Depot = sym h ∙ d in absurd cc

pub not_depot : {T : Type 0} (r : Result T CarryFault) → IfErr r (λ fault. fault ≢ Depot) → r ≡ Err Depot → ⊥
not_depot r h e = subst (λ (x : Result _ CarryFault). IfErr x (λ fault. fault ≢ Depot)) e h refl

-- ---- user data

pub can_set : (changes : List UserChange) → AllByRecursion CanSet changes → AllByRecursion SetsUser (changes_of changes)
can_set [] h = tt
can_set (c ∷ cs) h = (h.0, can_set cs h.1)

-- user data with its items counts for one more than these
user_count : (c : Chunk) (items : List Chunk) (rest : List ℕ) → udta.is c ≡ true → udta.opening c ≡ record { chunks = items; stop = ends; left = rest } → atoms_of false c ≡ suc (length items)
user_count c items rest is e = ap (atoms_by c) is ∙ ap (λ (r : Run). suc (length r.chunks)) e

pub user_now : (e : List (Item Value)) (form : SizeForm) (body : List ℕ) (u : UserBody) (c : Chunk) → c ≡ plain form (codes "udta") body → AllByRecursion SetsUser e → IsBytes c.body → (udta.opening c).stop ≡ ends
    → u.bytes ≡ edited_body e body → u.items ≡ length (edited_items e body) → length u.bytes ≤ 2 ^ 24
    → (now : NewAtom) → now.bytes ≡ spell (plain form (codes "udta") u.bytes) → now.parts ≡ u.items + 1 → IsMade (edit_carrier udta user_items e c) (Ok now)
user_now e form body u c is can bytes whole same count le now spelled parts =
    let made = edit_carrier udta user_items e c in
    let new : made ≡ plain form (codes "udta") u.bytes = ap (edit_carrier udta user_items e) is ∙ ap (plain form (codes "udta")) (sym same) in
    let counted = user_count made (put_all user_items e (udta.opening c).chunks) (udta.opening c).left (ap (λ (x : Chunk). udta.is x) new) (edited_again e c can bytes whole) in
    let items : length (put_all user_items e (udta.opening c).chunks) ≡ u.items = ap (λ (x : Chunk). length (put_all user_items e (udta.opening x).chunks)) is ∙ sym count in
    ((spelled ∙ ap spell (sym new), omega (arith, parts, counted, items)), omega (arith, le, ap (λ (x : Chunk). length x.body) new))

pub as_plain : (b : List ℕ) (k : AtomAt) (body : List ℕ) → udta.is (atom_in b k) ≡ true → body ≡ (atom_in b k).body → atom_in b k ≡ plain k.form (codes "udta") body
as_plain b k body is same = ap (λ (id : List ℕ). plain k.form id (atom_in b k).body) (same_true k.kind.0 (codes "udta") is) ∙ ap (plain k.form (codes "udta")) (sym same)

pub user_large : (e : List (Item Value)) (form : SizeForm) (body : List ℕ) (c : Chunk) (size : ℕ) → c ≡ plain form (codes "udta") body → size ≡ length (edited_body e body) → 2 ^ 24 < size → IsMade (edit_carrier udta user_items e c) (Err (TooLarge size))
user_large e form body c size is same lt = (same ∙ ap (λ (x : Chunk). length (edit_carrier udta user_items e x).body) (sym is), lt)

-- of nothing
nothing_opened : opened [] ≡ record { chunks = []; stop = ends; left = [] }
unfolding chunks read
nothing_opened = refl

new_items : (e : List (Item Value)) → edited_items e [] ≡ put_all user_items e []
new_items e = ap (λ (r : Run). put_all user_items e r.chunks) nothing_opened

new_body : (e : List (Item Value)) → edited_body e [] ≡ spell_all (put_all user_items e [])
new_body e = ap (λ (r : Run). spell_all (put_all user_items e r.chunks) ++ r.left) nothing_opened ∙ append-nil (spell_all (put_all user_items e []))

fresh_some : (items : List Chunk) → items ≢ [] → fresh udta items ≡ Some (udta.fresh items)
fresh_some [] some = absurd (some refl)
fresh_some (x ∷ xs) some = refl

none_long : (items : List Chunk) → length items ≡ 0 → items ≡ []
none_long [] e = refl
none_long (x ∷ xs) e = absurd (omega (arith, e))

pub no_fresh : (e : List (Item Value)) (u : UserBody) → u.items ≡ length (edited_items e []) → u.items ≡ 0 → fresh udta (put_all user_items e []) ≡ None
no_fresh e u count none = ap (fresh udta) (none_long (put_all user_items e []) (omega (arith, count, none, ap length (new_items e))))

module _ (e : List (Item Value)) where
  abbrev pub items : List Chunk
  items = put_all user_items e []

  pub fresh_now : AllByRecursion SetsUser e → (u : UserBody) → u.bytes ≡ edited_body e [] → u.items ≡ length (edited_items e []) → length u.bytes ≤ 2 ^ 24
      → (now : NewAtom) → now.bytes ≡ spell (plain Short (codes "udta") u.bytes) → now.parts ≡ u.items + 1 → IsMade (udta.fresh items) (Ok now)
  fresh_now can u same count le now spelled parts =
      let body : u.bytes ≡ spell_all items = same ∙ new_body e in
      let counted = user_count (udta.fresh items) items [] refl (fresh_again e can) in
      ((spelled ∙ ap (λ (x : List ℕ). spell (plain Short (codes "udta") x)) body, omega (arith, parts, counted, count, ap length (new_items e))), omega (arith, le, ap length body))

  pub fresh_is : (u : UserBody) → u.items ≡ length (edited_items e []) → u.items ≢ 0 → fresh udta items ≡ Some (udta.fresh items)
  fresh_is u count some = fresh_some items (λ none. some (count ∙ ap length (new_items e ∙ none)))

  pub fresh_large : (size : ℕ) → size ≡ length (edited_body e []) → 2 ^ 24 < size → IsFresh (fresh udta items) (Err (TooLarge size))
  fresh_large size same lt =
      let long : size ≡ length (spell_all items) = same ∙ ap length (new_body e) in
      (udta.fresh items, (fresh_some items (λ none. absurd (omega (arith, lt, long, ap (λ (cs : List Chunk). length (spell_all cs)) none))), long, lt))

-- ---- the key table

-- an atom of the type `meta` counts for one
meta_counts : (c : Chunk) → c.id ≡ codes "meta" → atoms_of false c ≡ 1
unfolding nested
meta_counts c e = rw e refl

-- the table of an edited `meta`
edited_as : (e : List (Item (List ℕ))) (form : SizeForm) (t : KeyTable) (c : Chunk) → c.form ≡ form_of form → c.id ≡ codes "meta" → c.pad ≡ [] → key_table c.body ≡ Some t → edit_meta e c ≡ plain form (codes "meta") (table_bytes (with_keys e t))
edited_as e form t c f i p k = rw (f, i, p, k) refl

pub meta_now : (e : List (Item (List ℕ))) (form : SizeForm) (t : KeyTable) (body : List ℕ) (c : Chunk) → c.form ≡ form_of form → c.id ≡ codes "meta" → c.pad ≡ [] → key_table c.body ≡ Some t
    → body ≡ table_bytes (with_keys e t) → length body ≤ 2 ^ 24 → (now : NewAtom) → now.bytes ≡ spell (plain form (codes "meta") body) → now.parts ≡ 1 → IsMade (edit_meta e c) (Ok now)
meta_now e form t body c f i p k same le now spelled parts =
    let new : edit_meta e c ≡ plain form (codes "meta") body = edited_as e form t c f i p k ∙ ap (plain form (codes "meta")) (sym same) in
    ((spelled ∙ ap spell (sym new), parts ∙ sym (meta_counts (edit_meta e c) i)), omega (arith, le, ap (λ (x : Chunk). length x.body) new))

pub meta_large : (e : List (Item (List ℕ))) (form : SizeForm) (t : KeyTable) (c : Chunk) (size : ℕ) → c.form ≡ form_of form → c.id ≡ codes "meta" → c.pad ≡ [] → key_table c.body ≡ Some t
    → size ≡ length (table_bytes (with_keys e t)) → 2 ^ 24 < size → IsMade (edit_meta e c) (Err (TooLarge size))
meta_large e form t c size f i p k same lt = (same ∙ ap (λ (x : Chunk). length x.body) (sym (edited_as e form t c f i p k)), lt)

-- a new one
abbrev pub blank : Chunk
blank = atom (codes "meta") (table_bytes new_table)

pub new_is : (e : List (Item (List ℕ))) (t : KeyTable) → t ≡ new_table → IsRead t → sets_some e ≡ true → new_meta e ≡ Some (edit_meta e blank)
new_is e t same read some =
    let now : key_table (table_bytes new_table) ≡ Some new_table = subst (λ (x : KeyTable). key_table (table_bytes x) ≡ Some x) same read.read in
    ap (λ (u : Bool). cond u (Some (atom (codes "meta") (table_bytes (with_keys e new_table)))) None) some
    ∙ ap (λ (o : Option KeyTable). Some (atom (codes "meta") (table_bytes (with_keys e (table_or o))))) (sym now)

pub blank_read : (t : KeyTable) → t ≡ new_table → IsRead t → key_table blank.body ≡ Some t
blank_read t same read = ap (λ (x : KeyTable). key_table (table_bytes x)) (sym same) ∙ read.read

pub no_new : (e : List (Item (List ℕ))) → sets_some e ≡ false → new_meta e ≡ None
no_new e none = ap (λ (u : Bool). cond u (Some (atom (codes "meta") (table_bytes (with_keys e new_table)))) None) none
