-- What becomes of the carriers, with the sizes that may be too large.
use Rattle.std.proofs.Common.{◌≡◌, ◌∙◌, ◌≢◌, ◌≤◌, ◌<◌, ◌^◌, ℕ, zero, suc, ◌+◌, Bool, true, false, cond, List, [], ◌∷◌, ◌++◌, length, map, Option, Some, None, Result, refl, sym, ap, subst, arith, append-nil, get_or}
use Rattle.std.specs.Prelude.{◌==◌, codes, nat_lt}
use Rattle.std.specs.declared.result.Result.TheVariants.{Ok, Err}
use Rattle.std.specs.List.{AllByRecursion, list_any}
use Rattle.std.proofs.lemmas.Bool.{eqb-true, le-ltb, lt-ltb}
use Rattle.me_bytes.specs.Bytes.{IsBytes}
use Rattle.part_tree.specs.Large.{Size, first_above, limited}
use Rattle.part_tree.specs.declared.field.Value.{Value}
use Rattle.carrier_model.specs.Lists.{sets_some}
use Rattle.container_model.specs.Atoms.{atom, atoms_in, is}
use Rattle.container_model.specs.Chunk.{Chunk, Run, ends, spell, spell_all}
use Rattle.container_model.specs.Items.{Item, edit_carrier, listed, put_all}
use Rattle.container_model.specs.Sizes.{atom_front, user}
use Rattle.container_model.specs.Units.{Cell, solids}
use Rattle.container_model.proofs.Atoms.{atoms_give_back}
use Rattle.container_model.proofs.Codec.{chunks_joined}
use Rattle.mov_model.specs.Atoms.{cell_of, is_padding}
use Rattle.mov_model.specs.Carried.{fresh}
use Rattle.mov_model.specs.Keys.{edit_meta, is_meta, new_meta, new_table, table_in, table_or, with_keys}
use Rattle.mov_model.specs.Large.{body_size, key_sizes, user_sizes}
use Rattle.mov_model.specs.Movie.{Movie, movie_of}
use Rattle.mov_model.specs.Parts.{first_of, parts}
use Rattle.mov_model.specs.Reading.{inside_at}
use Rattle.mov_model.specs.Support.{Readable, Supported}
use Rattle.mov_model.proofs.Again.{kids_bytes}
use Rattle.mov_model.proofs.Carry.{first_all, first_solids, strip}
use Rattle.mov_model.proofs.Cells.{is_user, meta_sort, user_sort}
use Rattle.mov_model.proofs.Keys.{table_is}
use Rattle.qt_atoms.specs.Walk.{atom_in, form_of}
use Rattle.qt_atoms.specs.declared.walker.AtomAt.{AtomAt}
use Rattle.qt_keys.specs.Read.{key_table}
use Rattle.qt_keys.specs.Table.{table_bytes}
use Rattle.qt_keys.specs.declared.table.KeyTable.{KeyTable}
use Rattle.qt_keys.proofs.Back.{table_back}
use Rattle.qt_keys.proofs.Whole.{small_table}
use Rattle.qt_text.specs.User.{udta, user_items}
use Rattle.mov_plan.specs.Atoms.{AreRow}
use Rattle.mov_plan.specs.Carriers.{AreCarried, CarriesKeys, CarriesUser, IsCarriedBy, IsFresh, IsMade, becomes, comes, found_from}
use Rattle.mov_plan.specs.Carry.{IsFirst, IsKeyStep, IsNew, IsNone, IsStep, IsUserStep, cells_of}
use Rattle.mov_plan.specs.declared.bodies.CarryFault.{CarryFault}
use Rattle.mov_plan.specs.declared.bodies.CarryFault.TheVariants.{Depot, Memory, TooLarge}
use Rattle.mov_plan.specs.declared.carry.Carry.{Carry}
use Rattle.mov_plan.specs.declared.carry.Carry.TheVariants.{Becomes, Comes, Stays}
use Rattle.mov_plan.specs.declared.carry.NewAtom.{NewAtom}
use Rattle.mov_plan.specs.declared.moov_carriers.Carries.{Carries}
use Rattle.mov_plan.specs.declared.key_carry.TableFound.{TableFound}
use Rattle.mov_plan.proofs.AtomBodies.{HasTable, IsFound, no_atom, user_place, first_in, first_meets, first_solid, no_solid, none_in, no_table_found, table_found}

-- ---- sizes

-- one size
small_one : (n : ℕ) → n ≤ 2 ^ 24 → first_above (limited (2 ^ 24) n ∷ []) ≡ None
small_one n le = ap (λ (t : Bool). cond t (Some (limited (2 ^ 24) n)) None) (le-ltb (2 ^ 24) n le)

large_one : (n : ℕ) → 2 ^ 24 < n → first_above (limited (2 ^ 24) n ∷ []) ≡ Some (limited (2 ^ 24) n)
large_one n lt = ap (λ (t : Bool). cond t (Some (limited (2 ^ 24) n)) None) (lt-ltb (2 ^ 24) n lt)

-- sizes behind others
above_none : (a b : List Size) → first_above a ≡ None → first_above (a ++ b) ≡ first_above b
above_none [] b e = refl
above_none (s ∷ a) b e = go (nat_lt s.limit s.size) e (above_none a b)
  where
    go : (t : Bool) → cond t (Some s) (first_above a) ≡ None → (first_above a ≡ None → first_above (a ++ b) ≡ first_above b) → cond t (Some s) (first_above (a ++ b)) ≡ first_above b
    go true e again = absurd cc
    go false e again = again e

above_some : (a b : List Size) (x : Size) → first_above a ≡ Some x → first_above (a ++ b) ≡ Some x
above_some [] b x e = absurd cc
above_some (s ∷ a) b x e = go (nat_lt s.limit s.size) e (above_some a b x)
  where
    go : (t : Bool) → cond t (Some s) (first_above a) ≡ Some x → (first_above a ≡ Some x → first_above (a ++ b) ≡ Some x) → cond t (Some s) (first_above (a ++ b)) ≡ Some x
    go true e again = e
    go false e again = again e

-- the sizes of a carrier, by the first of its sort and whether there is one
abbrev sizes_by : (Chunk → Chunk) → Option Chunk → List Chunk → Bool → List Size
sizes_by g new cs any = map (λ c. body_size (g c)) cs ++ cond any [] (map body_size (listed new))

one_size : (g : Chunk → Chunk) (new : Option Chunk) (cs : List Chunk) (any : Bool) (c : Chunk) → cs ≡ c ∷ [] → any ≡ true → sizes_by g new cs any ≡ body_size (g c) ∷ []
one_size g new cs any c e t = rw (e, t) refl

new_size : (g : Chunk → Chunk) (new : Option Chunk) (cs : List Chunk) (any : Bool) → cs ≡ [] → any ≡ false → sizes_by g new cs any ≡ map body_size (listed new)
new_size g new cs any e t = rw (e, t) refl

-- where the first is as it was, and none is new
no_size : (g : Chunk → Chunk) (cs : List Chunk) (any : Bool) → AllByRecursion (λ c. length (g c).body ≤ 2 ^ 24) cs → first_above (sizes_by g None cs any) ≡ None
no_size g [] true h = refl
no_size g [] false h = refl
no_size g (c ∷ cs) any h =
    ap (λ (t : Bool). cond t (Some (body_size (g c))) (first_above (sizes_by g None cs any))) (le-ltb (2 ^ 24) (length (g c).body) h.0)
    ∙ no_size g cs any h.1

-- ---- a carrier

module _ (Step : Carry → Type 0) where
  pub made_becomes : (k : ℕ) (c : Chunk) (made : Result NewAtom CarryFault) (sizes : List Size) → sizes ≡ body_size c ∷ [] → IsMade c made → ((now : NewAtom) → IsNew now c → Step (Becomes k now))
      → IsCarriedBy Step sizes (becomes k made)
  made_becomes k c (Ok now) sizes e m step = (step now m.0, ap first_above e ∙ small_one (length c.body) m.1)
  made_becomes k c (Err (TooLarge size)) sizes e m step = ap first_above e ∙ large_one (length c.body) (omega (arith, m.0, m.1)) ∙ ap (λ (n : ℕ). Some (limited (2 ^ 24) n)) (sym m.0)
  made_becomes k c (Err Depot) sizes e m step = tt
  made_becomes k c (Err Memory) sizes e m step = tt

  pub made_comes : (new : Option Chunk) (made : Result (Option NewAtom) CarryFault) (sizes : List Size) → sizes ≡ map body_size (listed new) → IsFresh new made
      → (new ≡ None → Step Stays) → ((now : NewAtom) (c : Chunk) → new ≡ Some c → IsNew now c → Step (Comes now)) → IsCarriedBy Step sizes (comes made)
  made_comes new (Ok None) sizes e m stays step = (stays m, ap first_above (e ∙ ap (λ (o : Option Chunk). map body_size (listed o)) m))
  made_comes new (Ok (Some now)) sizes e m stays step =
      let c = m.0 in
      (step now c m.1.0 m.1.1, ap first_above (e ∙ ap (λ (o : Option Chunk). map body_size (listed o)) m.1.0) ∙ small_one (length c.body) m.1.2)
  made_comes new (Err (TooLarge size)) sizes e m stays step =
      let c = m.0 in
      ap first_above (e ∙ ap (λ (o : Option Chunk). map body_size (listed o)) m.1.0) ∙ large_one (length c.body) (omega (arith, m.1.1, m.1.2)) ∙ ap (λ (n : ℕ). Some (limited (2 ^ 24) n)) (sym m.1.1)
  made_comes new (Err Depot) sizes e m stays step = tt
  made_comes new (Err Memory) sizes e m stays step = tt

-- both
pub both_carried : (b : List ℕ) (us : List (Item Value)) (ks : List (Item (List ℕ))) (own keys : Carry) → CarriesUser b us (Ok own) → CarriesKeys b ks (Ok keys)
    → AreCarried b us ks (Ok (record { user = own; keys = keys }))
both_carried b us ks own keys u k = (u.0, k.0, above_none (user_sizes (movie_of b) us) (key_sizes (movie_of b) ks) u.1 ∙ k.1)

pub user_large : (b : List ℕ) (us : List (Item Value)) (ks : List (Item (List ℕ))) (fault : CarryFault) → CarriesUser b us (Err fault) → AreCarried b us ks (Err fault)
user_large b us ks (TooLarge size) u = above_some (user_sizes (movie_of b) us) (key_sizes (movie_of b) ks) (limited (2 ^ 24) size) u
user_large b us ks Depot u = tt
user_large b us ks Memory u = tt

pub keys_large : (b : List ℕ) (us : List (Item Value)) (ks : List (Item (List ℕ))) (own : Carry) (fault : CarryFault) → CarriesUser b us (Ok own) → CarriesKeys b ks (Err fault) → AreCarried b us ks (Err fault)
keys_large b us ks own (TooLarge size) u k = above_none (user_sizes (movie_of b) us) (key_sizes (movie_of b) ks) u.1 ∙ k
keys_large b us ks own Depot u k = tt
keys_large b us ks own Memory u k = tt

-- ---- with no changes

pub empty_is : {A : Type 0} (xs : List A) → true ≡ (length xs == 0) → xs ≡ []
empty_is [] e = refl
empty_is (x ∷ xs) e = absurd (omega (arith, eqb-true (length (x ∷ xs)) 0 (sym e)))

pub some_is : {A : Type 0} (xs : List A) → false ≡ (length xs == 0) → xs ≢ []
some_is xs e none = let no : false ≡ true = e ∙ ap (λ (ys : List _). length ys == 0) none in absurd cc

pub some_map : {A B : Type 0} (f : A → B) (xs : List A) → xs ≢ [] → map f xs ≢ []
some_map f [] some = λ e. some refl
some_map f (x ∷ xs) some = λ e. let no : suc (length (map f xs)) ≡ 0 = ap length e in absurd (omega (arith, no))

user_step : (e : List (Item Value)) (k : Carry) (xs : List Cell) → e ≢ [] → IsStep is_user (edit_carrier udta user_items e) (fresh udta (put_all user_items e [])) k xs → IsUserStep e k xs
user_step [] k xs some st = absurd (some refl)
user_step (i ∷ e) k xs some st = st

key_step : (e : List (Item (List ℕ))) (k : Carry) (xs : List Cell) → e ≢ [] → IsStep is_meta (edit_meta e) (new_meta e) k xs → IsKeyStep e k xs
key_step [] k xs some st = absurd (some refl)
key_step (i ∷ e) k xs some st = st

module _ (b : List ℕ) (bytes : IsBytes b) (sup : Supported b) where
  abbrev kids : List Chunk
  kids = (atoms_in (movie_of b).movie).chunks

  all_strip : (P : Chunk → Type 0) → ((c : Chunk) → P c → P (strip c)) → (cs : List Chunk) → AllByRecursion P cs → AllByRecursion P (map strip cs)
  all_strip P f [] h = tt
  all_strip P f (c ∷ cs) h = (f c h.0, all_strip P f cs h.1)

  all_two : (P Q R : Chunk → Type 0) → ((c : Chunk) → P c → Q c → R c) → (cs : List Chunk) → AllByRecursion P cs → AllByRecursion Q cs → AllByRecursion R cs
  all_two P Q R f [] p q = tt
  all_two P Q R f (c ∷ cs) p q = (f c p.0 q.0, all_two P Q R f cs p.1 q.1)

  user_bytes : AllByRecursion (λ c. IsBytes c.body) (first_of is_user (parts (movie_of b)))
  user_bytes =
      subst (AllByRecursion (λ c. IsBytes c.body)) (sym (first_solids is_user user_sort kids))
      (all_strip (λ c. IsBytes c.body) (λ c h. h) (first_of is_user kids) (first_all is_user (λ c. IsBytes c.body) (λ c. IsBytes c.body) (λ c m h. h) kids (kids_bytes b bytes sup.readable)))

  -- a key table that is left as it is
  same_small : (c : Chunk) → is_meta c ≡ true → IsBytes c.body → length (edit_meta [] c).body ≤ 2 ^ 24
  same_small c m h =
      let t = table_is c m in
      omega (arith, ap length (table_back c.body (table_in c) h t), small_table c.body (table_in c) t)

  keys_small : AllByRecursion (λ c. length (edit_meta [] c).body ≤ 2 ^ 24) (first_of is_meta (parts (movie_of b)))
  keys_small =
      subst (AllByRecursion (λ c. length (edit_meta [] c).body ≤ 2 ^ 24)) (sym (first_solids is_meta meta_sort kids))
      (all_strip (λ c. length (edit_meta [] c).body ≤ 2 ^ 24) (λ c h. h) (first_of is_meta kids) (first_all is_meta (λ c. IsBytes c.body) (λ c. length (edit_meta [] c).body ≤ 2 ^ 24) same_small kids (kids_bytes b bytes sup.readable)))

  -- user data that is left as it is
  user_same : (c : Chunk) → IsBytes c.body → length c.body ≤ 2 ^ 24 → length (edit_carrier udta user_items [] c).body ≤ 2 ^ 24
  user_same c h le = omega (arith, ap length (chunks_joined atom_front atoms_give_back user c.body h), le)

  pub no_user : CarriesUser b [] (Ok Stays)
  no_user = (
    refl,
    no_size (edit_carrier udta user_items []) (first_of is_user (parts (movie_of b))) (list_any is_user (parts (movie_of b)))
        (all_two (λ c. IsBytes c.body) (λ c. length c.body ≤ 2 ^ 24) (λ c. length (edit_carrier udta user_items [] c).body ≤ 2 ^ 24) user_same (first_of is_user (parts (movie_of b))) user_bytes sup.readable.movie.user_small),
  )

  pub no_keys : CarriesKeys b [] (Ok Stays)
  no_keys = (refl, no_size (edit_meta []) (first_of is_meta (parts (movie_of b))) (list_any is_meta (parts (movie_of b))) keys_small)

  -- ---- with some

  module _ (at : ℕ) (ks : List AtomAt) (row : AreRow b at ks kids) where
    abbrev pub sees_user : AtomAt → Bool
    sees_user k = is_user (atom_in b k)

    -- what is known of the first user data
    pub record IsUser (c : Chunk) : Type 0 where
      pub meets : udta.is c ≡ true
      pub fits : IsBytes c.body
      pub whole : (udta.opening c).stop ≡ ends
      pub small : length c.body ≤ 2 ^ 24

    pub user_is : (n : ℕ) (c : Chunk) → c.pad ≡ [] → IsFirst is_user n c (map cell_of kids) → IsUser c
    user_is n c pad f =
        let one = (first_solid is_user user_sort n c kids pad f).0 in
        record {
          meets = first_meets is_user user_sort n c (map cell_of kids) f;
          fits = (subst (AllByRecursion (λ c. IsBytes c.body)) one user_bytes).0;
          whole = (subst (AllByRecursion (λ c. (udta.opening c).stop ≡ ends)) one sup.readable.movie.user_ends).0;
          small = (subst (AllByRecursion (λ c. length c.body ≤ 2 ^ 24)) one sup.readable.movie.user_small).0;
        }

    pub user_becomes : (e : List (Item Value)) (n : ℕ) (c : Chunk) (made : Result NewAtom CarryFault) → e ≢ [] → c.pad ≡ [] → IsFirst is_user n c (map cell_of kids)
        → IsMade (edit_carrier udta user_items e c) made → CarriesUser b e (becomes n made)
    user_becomes e n c made some pad f m =
        let h = first_solid is_user user_sort n c kids pad f in
        made_becomes (λ k. IsUserStep e k (cells_of (movie_of b))) n (edit_carrier udta user_items e c) made (user_sizes (movie_of b) e)
        (one_size (edit_carrier udta user_items e) (fresh udta (put_all user_items e [])) (first_of is_user (parts (movie_of b))) (list_any is_user (parts (movie_of b))) c h.0 h.1)
        m (λ now new. user_step e (Becomes n now) (cells_of (movie_of b)) some (c, (f, new)))

    pub user_comes : (e : List (Item Value)) (made : Result (Option NewAtom) CarryFault) → e ≢ [] → IsNone is_user (map cell_of kids)
        → IsFresh (fresh udta (put_all user_items e [])) made → CarriesUser b e (comes made)
    user_comes e made some f m =
        let h = no_solid is_user user_sort kids f in
        made_comes (λ k. IsUserStep e k (cells_of (movie_of b))) (fresh udta (put_all user_items e [])) made (user_sizes (movie_of b) e)
        (new_size (edit_carrier udta user_items e) (fresh udta (put_all user_items e [])) (first_of is_user (parts (movie_of b))) (list_any is_user (parts (movie_of b))) h.0 h.1)
        m (λ none. user_step e Stays (cells_of (movie_of b)) some (f, none)) (λ now c new is. user_step e (Comes now) (cells_of (movie_of b)) some (c, (f, new, is)))

    pub keys_become : (e : List (Item (List ℕ))) (n : ℕ) (c : Chunk) (made : Result NewAtom CarryFault) → e ≢ [] → c.pad ≡ [] → IsFirst is_meta n c (map cell_of kids)
        → IsMade (edit_meta e c) made → CarriesKeys b e (becomes n made)
    keys_become e n c made some pad f m =
        let h = first_solid is_meta meta_sort n c kids pad f in
        made_becomes (λ k. IsKeyStep e k (cells_of (movie_of b))) n (edit_meta e c) made (key_sizes (movie_of b) e)
        (one_size (edit_meta e) (new_meta e) (first_of is_meta (parts (movie_of b))) (list_any is_meta (parts (movie_of b))) c h.0 h.1)
        m (λ now new. key_step e (Becomes n now) (cells_of (movie_of b)) some (c, (f, new)))

    pub keys_come : (e : List (Item (List ℕ))) (made : Result (Option NewAtom) CarryFault) → e ≢ [] → IsNone is_meta (map cell_of kids)
        → IsFresh (new_meta e) made → CarriesKeys b e (comes made)
    keys_come e made some f m =
        let h = no_solid is_meta meta_sort kids f in
        made_comes (λ k. IsKeyStep e k (cells_of (movie_of b))) (new_meta e) made (key_sizes (movie_of b) e)
        (new_size (edit_meta e) (new_meta e) (first_of is_meta (parts (movie_of b))) (list_any is_meta (parts (movie_of b))) h.0 h.1)
        m (λ none. key_step e Stays (cells_of (movie_of b)) some (f, none)) (λ now c new is. key_step e (Comes now) (cells_of (movie_of b)) some (c, (f, new, is)))

    -- by the first table that is found
    pub keys_by : (e : List (Item (List ℕ))) (f : TableFound) (made : Result NewAtom CarryFault) → e ≢ [] → Some f ≡ found_from b 0 ks
        → ((c : Chunk) → c.form ≡ form_of f.form → c.id ≡ codes "meta" → c.pad ≡ [] → key_table c.body ≡ Some f.table → IsMade (edit_meta e c) made) → CarriesKeys b e (becomes f.number made)
    keys_by e f made some found m =
        let is = table_found b 0 at ks kids f row (sym found) in
        let same : is.place ≡ f.number = omega (arith, is.number) in
        subst (λ (n : ℕ). CarriesKeys b e (becomes n made)) same (keys_become e is.place is.chunk made some is.has.pad is.first (m is.chunk is.has.form is.has.id is.has.pad is.has.table))

    -- and where none is
    pub keys_new : (e : List (Item (List ℕ))) (made : Result (Option NewAtom) CarryFault) → e ≢ [] → None ≡ found_from b 0 ks → IsFresh (new_meta e) made → CarriesKeys b e (comes made)
    keys_new e made some none m = keys_come e made some (no_table_found b 0 at ks kids row (sym none)) m

    -- by the place of the first user data
    pub user_by : (e : List (Item Value)) (n : ℕ) (d : AtomAt) (made : Result NewAtom CarryFault) → e ≢ [] → n ≡ user_place ks → n < length ks → d ≡ get_or ks n no_atom
        → (udta.is (atom_in b d) ≡ true → IsBytes (atom_in b d).body → (udta.opening (atom_in b d)).stop ≡ ends → length (atom_in b d).body ≤ 2 ^ 24 → IsMade (edit_carrier udta user_items e (atom_in b d)) made)
        → CarriesUser b e (becomes n made)
    user_by e n d made some place lt here m =
        let f : IsFirst is_user n (atom_in b d) (map cell_of kids)
        = subst (λ (k : AtomAt). IsFirst is_user n (atom_in b k) (map cell_of kids)) (sym here) (first_in is_user user_sort b at ks kids n no_atom row place lt) in
        let is = user_is n (atom_in b d) refl f in
        user_becomes e n (atom_in b d) made some refl f (m is.meets is.fits is.whole is.small)

    pub user_new : (e : List (Item Value)) (n : ℕ) (made : Result (Option NewAtom) CarryFault) → e ≢ [] → n ≡ user_place ks → n ≤ length ks → length ks ≤ n → IsFresh (fresh udta (put_all user_items e [])) made
        → CarriesUser b e (comes made)
    user_new e n made some place le ge m = user_comes e made some (none_in is_user user_sort b at ks kids row (omega (arith, place, le, ge))) m
