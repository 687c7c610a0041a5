-- Zeros over the numbers of the new file's tables: they go with these, and clause 4, that each table finds what it found.
use Rattle.std.proofs.Common.{◌≡◌, ℕ, ◌+◌, ◌-◌, ◌<◌, Bool, true, false, List, [], ◌∷◌, ◌++◌, length, map, Some, refl, sym, ap, subst, ◌∙◌, arith, inl, inr}
use Rattle.std.specs.Prelude.{◌⊎◌}
use Rattle.std.specs.List.{AllByRecursion}
use Rattle.container_model.specs.Stood.{Stood}
use Rattle.container_model.specs.Written.{Write, written}
use Rattle.container_model.proofs.Codec.{IsBytes}
use Rattle.container_model.proofs.Copied.{Moves_as_one}
use Rattle.avi_model.specs.Avi.{Avi, avi_of, spell_avi, old_indexes}
use Rattle.container_model.specs.Tables.{Table}
use Rattle.opendml_index.specs.Index.{How, move, blank, is_super, entries, index_body, index_base, first_counted}
use Rattle.avi_model.specs.Index.{writes, write_index, write_old, base, indexes, olds}
use Rattle.avi_index.specs.Rows.{old_body, Base}
use Rattle.avi_model.specs.Pieces.{pieces, Pieces}
use Rattle.avi_model.specs.Support.{Supported}
use Rattle.avi_model.proofs.Blank.{old_blank}
use Rattle.avi_model.proofs.Zeros.{index_blank, Moved_by, PlaceStays, SecondStays}
use Rattle.avi_model.proofs.Overlaid.{moved_write, Pair, firsts, seconds, SameRange, written_both}
use Rattle.avi_model.proofs.Pieces.{moved_index, moved_old, TablesMove, Rests, SuperFits, EntryFits, StandardFits, IndexFits_by}
use Rattle.avi_model.proofs.Laid.{IsLaid}
use Rattle.avi_model.proofs.Law.{pieces_stay, tables_facts}
use Rattle.avi_model.proofs.Among.{Among, all_among, among_all, among_append, among_map}
use Rattle.avi_model.proofs.Sound.{index_sound, each_write}
use Rattle.avi_model.proofs.Fit.{FitsBy}
use Rattle.avi_model.proofs.Moves.{table_facts, index_rests, index_fits}

module _ (o : List ℕ) (bytes : IsBytes o) (s : Supported o) (f : ℕ → ℕ) (Free : ℕ → Type 0) (after : Avi) (facts : IsLaid o f Free after) (fit : FitsBy after f o (spell_avi after)) where
  abbrev a : Avi
  a = avi_of o

  abbrev ws : List Write
  ws = writes (move f) o

  abbrev zs : List Write
  zs = writes blank o

  abbrev n : List ℕ
  n = spell_avi after

  pub tables : TablesMove o (spell_avi after) f Free facts.order
  tables = tables_facts o f Free after facts (table_facts o bytes s f Free after facts fit)

  -- Clause 4.
  pub pieces_same : pieces (spell_avi after) ≡ pieces o
  pieces_same = pieces_stay o f Free after facts (table_facts o bytes s f Free after facts fit)

  pub base_same : base (spell_avi after) ≡ base o
  base_same = ap (λ (p : Pieces). p.based) pieces_same

  -- an index chunk's place, by its header
  abbrev pub to : ℕ → ℕ
  to q = f (q - 8) + 8

  to_head : (t : Table) → Rests o n f Free facts.order t → f t.at ≡ to t.at
  to_head t r =
      let long = r.whole.header_there in
      let back : t.at - 8 ≡ r.head = omega (arith, r.at_is) in
      ap f r.at_is ∙ (r.rigid 8 (omega (arith, long))).1 ∙ ap (λ (q : ℕ). f q + 8) (sym back)

  zero_index : (t : Table) → Among t (indexes o) → write_index blank (moved_index o n f Free facts.order t) ≡ moved_write to (write_index blank t)
  zero_index t i =
      let r = index_rests o bytes s f Free after facts fit t i in
      let moved : Moved_by f t.body (is_super t.body) = go (is_super t.body) (index_fits o bytes s f Free after facts fit t i) in
      ap (λ (q : ℕ). record { at = q; bytes = index_body blank (index_body (move f) t.body) }) (to_head t r) ∙ ap (λ (x : List ℕ). record { at = to t.at; bytes = x }) (index_blank f t.body r.whole moved)
    where
      places : (rs : List (List ℕ)) → AllByRecursion (SuperFits o n f Free facts.order) rs → AllByRecursion (PlaceStays f) rs
      places [] h = tt
      places (r ∷ rs) h = ((λ c. let x = h.0 c in (x.0, x.1, x.2)), places rs h.1)

      seconds_stay : (old nb : ℕ) (rs : List (List ℕ)) → AllByRecursion (EntryFits o n f Free facts.order old nb) rs → AllByRecursion (SecondStays (λ y. f (old + y) - nb)) rs
      seconds_stay old nb [] h = tt
      seconds_stay old nb (r ∷ rs) h = ((λ c d. let x = (h.0 c).second d in (x.long, omega (arith, x.low), x.small)), seconds_stay old nb rs h.1)

      standard : (x : ℕ) → first_counted (entries t.body) ≡ Some x → StandardFits o n f Free facts.order t.body (first_counted (entries t.body)) → AllByRecursion (SecondStays (λ y. f (index_base t.body + y) - ((index_base t.body + f (index_base t.body + x)) - (index_base t.body + x)))) (entries t.body)
      standard x e h =
          let k : StandardFits o n f Free facts.order t.body (Some x) = rw e at h in
          seconds_stay (index_base t.body) ((index_base t.body + f (index_base t.body + x)) - (index_base t.body + x)) (entries t.body) k.1

      go : (b : Bool) → IndexFits_by o n f Free facts.order t.body b → Moved_by f t.body b
      go true h = places (entries t.body) h
      go false h = λ x e. standard x e h

  map_on : {X Y Z : Type 0} (g : Y → Z) (m : X → Y) (h : Y → Z) (k : X → Y) (xs : List X) → ((x : X) → Among x xs → g (m x) ≡ h (k x)) → map g (map m xs) ≡ map h (map k xs)
  map_on g m h k [] e = refl
  map_on g m h k (x ∷ xs) e = rw (e x (inl refl), map_on g m h k xs (λ y i. e y (inr i))) refl

  map_two : {X Y Z : Type 0} (g : Y → Z) (m : X → Y) (k : X → Z) (xs : List X) → ((x : X) → g (m x) ≡ k x) → map g (map m xs) ≡ map k xs
  map_two g m k [] e = refl
  map_two g m k (x ∷ xs) e = rw (e x, map_two g m k xs e) refl

  pub zeros_are : writes blank n ≡ map (moved_write to) zs
  zeros_are =
      ap (λ (ts : List Table). map (write_index blank) ts ++ map (write_old blank (base n)) (olds n)) tables.indexes_move
      ∙ ap (λ (ts : List Table). map (write_index blank) (map (moved_index o n f Free facts.order) (indexes o)) ++ map (write_old blank (base n)) ts) tables.olds_move
      ∙ ap (λ (b : Base). map (write_index blank) (map (moved_index o n f Free facts.order) (indexes o)) ++ map (write_old blank b) (map (moved_old o n f Free facts.order (base o)) (olds o))) base_same
      ∙ ap (λ (x : List Write). x ++ map (write_old blank (base o)) (map (moved_old o n f Free facts.order (base o)) (olds o))) (first_map (indexes o) zero_index)
      ∙ ap (λ (x : List Write). map (moved_write to) (map (write_index blank) (indexes o)) ++ x) (second_map (olds o))
      ∙ sym (Rattle.container_model.proofs.Copied.map_append (moved_write to) (map (write_index blank) (indexes o)) (map (write_old blank (base o)) (olds o)))
    where
      first_map : (ts : List Table) → ((t : Table) → Among t ts → write_index blank (moved_index o n f Free facts.order t) ≡ moved_write to (write_index blank t)) → map (write_index blank) (map (moved_index o n f Free facts.order) ts) ≡ map (moved_write to) (map (write_index blank) ts)
      first_map [] h = refl
      first_map (t ∷ ts) h = rw (h t (inl refl), first_map ts (λ u i. h u (inr i))) refl

      second_map : (ts : List Table) → map (write_old blank (base o)) (map (moved_old o n f Free facts.order (base o)) ts) ≡ map (moved_write to) (map (write_old blank (base o)) ts)
      second_map [] = refl
      second_map (t ∷ ts) = rw (old_blank f (base o) t.body, second_map ts) refl

  -- both files have numbers in the same ranges
  index_pair : Table → Pair
  index_pair t = record { first = write_index (move f) t; second = write_index blank t }

  old_pair : Table → Pair
  old_pair t = record { first = write_old (move f) (base o) t; second = write_old blank (base o) t }

  pairs : List Pair
  pairs = map (λ (t : Table). record { first = write_index (move f) t; second = write_index blank t }) (indexes o) ++ map (λ (t : Table). record { first = write_old (move f) (base o) t; second = write_old blank (base o) t }) (olds o)

  pairs_first : firsts pairs ≡ ws
  unfolding pairs
  pairs_first =
      Rattle.container_model.proofs.Copied.map_append (λ (x : Pair). x.first) (map (λ (t : Table). record { first = write_index (move f) t; second = write_index blank t }) (indexes o)) (map (λ (t : Table). record { first = write_old (move f) (base o) t; second = write_old blank (base o) t }) (olds o))
      ∙ ap (λ (x : List Write). x ++ map (λ (x : Pair). x.first) (map (λ (t : Table). record { first = write_old (move f) (base o) t; second = write_old blank (base o) t }) (olds o))) (map_two (λ (x : Pair). x.first) (λ (t : Table). record { first = write_index (move f) t; second = write_index blank t }) (write_index (move f)) (indexes o) (λ t. refl))
      ∙ ap (λ (x : List Write). map (write_index (move f)) (indexes o) ++ x) (map_two (λ (x : Pair). x.first) (λ (t : Table). record { first = write_old (move f) (base o) t; second = write_old blank (base o) t }) (write_old (move f) (base o)) (olds o) (λ t. refl))

  pairs_second : seconds pairs ≡ zs
  unfolding pairs
  pairs_second =
      Rattle.container_model.proofs.Copied.map_append (λ (x : Pair). x.second) (map (λ (t : Table). record { first = write_index (move f) t; second = write_index blank t }) (indexes o)) (map (λ (t : Table). record { first = write_old (move f) (base o) t; second = write_old blank (base o) t }) (olds o))
      ∙ ap (λ (x : List Write). x ++ map (λ (x : Pair). x.second) (map (λ (t : Table). record { first = write_old (move f) (base o) t; second = write_old blank (base o) t }) (olds o))) (map_two (λ (x : Pair). x.second) (λ (t : Table). record { first = write_index (move f) t; second = write_index blank t }) (write_index blank) (indexes o) (λ t. refl))
      ∙ ap (λ (x : List Write). map (write_index blank) (indexes o) ++ x) (map_two (λ (x : Pair). x.second) (λ (t : Table). record { first = write_old (move f) (base o) t; second = write_old blank (base o) t }) (write_old blank (base o)) (olds o) (λ t. refl))

  pairs_range : AllByRecursion SameRange pairs
  unfolding pairs
  pairs_range = all_among SameRange (map (λ (t : Table). record { first = write_index (move f) t; second = write_index blank t }) (indexes o) ++ map (λ (t : Table). record { first = write_old (move f) (base o) t; second = write_old blank (base o) t }) (olds o)) one
    where
      old_length : (how : How) (t : Table) → length (old_body how.place (base o) t.body) ≡ length t.body
      old_length how t = Rattle.container_model.proofs.Written.length-map_rows 16 (Rattle.avi_index.specs.Rows.old_row how.place (base o)) (Rattle.avi_index.specs.Rows.count16 t.body) t.body (Rattle.avi_model.proofs.Numbers.old_keeps how (base o))

      one : (p : Pair) → Among p (map (λ (t : Table). record { first = write_index (move f) t; second = write_index blank t }) (indexes o) ++ map (λ (t : Table). record { first = write_old (move f) (base o) t; second = write_old blank (base o) t }) (olds o)) → SameRange p
      one p i = go (among_append (map (λ (t : Table). record { first = write_index (move f) t; second = write_index blank t }) (indexes o)) (map (λ (t : Table). record { first = write_old (move f) (base o) t; second = write_old blank (base o) t }) (olds o)) p i)
        where
          go : Among p (map (λ (t : Table). record { first = write_index (move f) t; second = write_index blank t }) (indexes o)) ⊎ Among p (map (λ (t : Table). record { first = write_old (move f) (base o) t; second = write_old blank (base o) t }) (olds o)) → SameRange p
          go (inl j) =
              let m = among_map (λ (t : Table). record { first = write_index (move f) t; second = write_index blank t }) (indexes o) p j in
              let w = (index_sound o bytes s m.from m.from_among).whole in
              subst SameRange m.same (refl, Rattle.avi_model.proofs.Numbers.index_length (move f) m.from.body w ∙ sym (Rattle.avi_model.proofs.Numbers.index_length blank m.from.body w))
          go (inr j) =
              let m = among_map (λ (t : Table). record { first = write_old (move f) (base o) t; second = write_old blank (base o) t }) (olds o) p j in
              subst SameRange m.same (refl, old_length (move f) m.from ∙ sym (old_length blank m.from))

  -- each zero goes with its table
  pub zeros_go : AllByRecursion (λ w. (i : ℕ) → i < length w.bytes → Free (w.at + i) × (f (w.at + i) ≡ to w.at + i)) zs
  zeros_go = each_write o bytes s blank (λ at len. (i : ℕ) → i < len → Free (at + i) × (f (at + i) ≡ to at + i)) index old
    where
      at_body : (h t i : ℕ) → t ≡ h + 8 → Free (h + (8 + i)) × (f (h + (8 + i)) ≡ f h + (8 + i)) → Free (t + i) × (f (t + i) ≡ to t + i)
      at_body h t i at r =
          let back : t - 8 ≡ h = omega arith in
          let e : t + i ≡ h + (8 + i) = omega arith in
          let q : to t + i ≡ f h + (8 + i) = omega (arith, ap f back) in
          (rw e r.0, ap f e ∙ r.1 ∙ sym q)

      index : (t : Table) → Among t (indexes o) → (i : ℕ) → i < length t.body → Free (t.at + i) × (f (t.at + i) ≡ to t.at + i)
      index t j i lt = let r = index_rests o bytes s f Free after facts fit t j in at_body r.head t.at i r.at_is (r.rigid (8 + i) (omega arith))

      old : (x : Stood) → Among x (old_indexes a) → (i : ℕ) → i < length x.chunk.body → Free ((x.at + 8) + i) × (f ((x.at + 8) + i) ≡ to (x.at + 8) + i)
      old x j i lt =
          let m = among_all (Moves_as_one f Free) (old_indexes a) facts.olds.1 x j in
          let k = Rattle.avi_model.proofs.Lies.body_end x (Rattle.avi_model.proofs.Moves.old_fine o bytes s f Free after facts fit x j).head in
          at_body x.at (x.at + 8) i refl (m (8 + i) (omega (arith, k, lt)))

  -- zeros over the moved numbers are zeros over the old ones
  pub zeros_both : written zs 0 (written ws 0 o) ≡ written zs 0 o
  zeros_both =
      ap (λ (y : List Write). written y 0 (written ws 0 o)) (sym pairs_second) ∙ ap (λ (y : List Write). written (seconds pairs) 0 (written y 0 o)) (sym pairs_first) ∙ written_both pairs 0 o pairs_range ∙ ap (λ (y : List Write). written y 0 o) pairs_second
