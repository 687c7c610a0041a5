-- The tables of a supported AVI file stand in it one behind the other.
use Rattle.std.proofs.Common.{◌≡◌, ◌∙◌, ◌⊎◌, ℕ, ◌+◌, Bool, true, false, cond, List, [], ◌∷◌, ◌++◌, length, map, refl, sym, ap, subst, inl, inr}
use Rattle.std.specs.Prelude.{◌||◌, nat_le}
use Rattle.std.specs.List.{AllByRecursion, flat_map}
use Rattle.me_bytes.specs.Bytes.{IsBytes}
use Rattle.part_tree.specs.Moves.{Move}
use Rattle.part_tree.specs.Tables.{moved}
use Rattle.container_model.specs.Splice.{Ascend, Cut, splice}
use Rattle.container_model.specs.Tables.{Table, named}
use Rattle.container_model.specs.Tables as stood
use Rattle.avi_index.specs.Rows.{Base, old_body}
use Rattle.opendml_index.specs.Index.{How, index_body, move}
use Rattle.opendml_index.specs.Kinds.{SoundIndex, is_index_kind, is_standard_kind, is_super_kind}
use Rattle.avi_model.specs.Avi.{avi_of, old_indexes}
use Rattle.avi_model.specs.Index.{base, indexes, named_by, olds, renumbered, streams, write_index, write_old}
use Rattle.avi_model.specs.NewFile.{cut_of_write, put_cut, put_cuts, table_cuts}
use Rattle.avi_model.specs.Support.{Supported, by_place}
use Rattle.avi_model.proofs.Among.{Among, all_among, among_all, among_append, among_map}
use Rattle.avi_model.proofs.Sorted.{from_sorted}
use Rattle.avi_model.proofs.Sound.{index_bytes, named_from, named_place, old_bytes}
use Rattle.avi_model.proofs.Stands.{index_stands, old_stands}
use Rattle.avi_model.proofs.Tabled.{tables_ascend, tables_spliced}
use Rattle.avi_plan.specs.Changes.{IsNamed, change_cut}
use Rattle.avi_plan.specs.Renewed.{table_cut}
use Rattle.avi_plan.specs.Tables.{IsTabled, Tabled, changes_of, index, old, put_tabled, put_tableds, table_of, tables_in}
use Rattle.unit_plan.specs.Cuts.{SpansAscend, cut_in}
use Rattle.unit_plan.specs.declared.cut.CutAt.{CutAt}
use Rattle.unit_plan.proofs.Spliced.{ascend_in}
use Rattle.avi_plan.specs.Changes.{merged}
use Rattle.avi_plan.specs.Renewed.{IsClear}
use Rattle.avi_plan.specs.declared.table.Change.{Change}
use Rattle.avi_plan.proofs.Mixed.{mixed_is}
use Rattle.avi_plan.proofs.Renewed.{tables_are}

or_right : (a b : Bool) → b ≡ true → (a || b) ≡ true
or_right true b h = refl
or_right false b h = h

standard_sound : (body : List ℕ) → SoundIndex is_standard_kind body → SoundIndex is_index_kind body
standard_sound body q = record { header_is_there = q.header_is_there; kind_is = or_right (is_super_kind body) (is_standard_kind body) q.kind_is; entries_are_there = q.entries_are_there }

-- ---- a table put among others

put_all : (P : Tabled → Type 0) (t : Tabled) (us : List Tabled) → P t → AllByRecursion P us → AllByRecursion P (put_tabled t us)
put_all P t [] h all = (h, tt)
put_all P t (u ∷ us) h all = go (nat_le ((table_of t).at + length (table_of t).body) (table_of u).at) (put_all P t us h all.1)
  where
    go : (v : Bool) → AllByRecursion P (put_tabled t us) → AllByRecursion P (cond v (t ∷ (u ∷ us)) (u ∷ put_tabled t us))
    go true more = (h, all)
    go false more = (all.0, more)

puts_all : (P : Tabled → Type 0) (ts us : List Tabled) → AllByRecursion P ts → AllByRecursion P us → AllByRecursion P (put_tableds ts us)
puts_all P [] us h all = all
puts_all P (t ∷ ts) us h all = put_all P t (put_tableds ts us) h.0 (puts_all P ts us h.1 all)

module _ (h : How) (base : Base) where
  abbrev cut : Tabled → Cut
  cut x = table_cut h base x

  map_put : (t : Tabled) (us : List Tabled) → map (table_cut h base) (put_tabled t us) ≡ put_cut (table_cut h base t) (map (table_cut h base) us)
  map_put t [] = refl
  map_put t (u ∷ us) = go (nat_le ((table_of t).at + length (table_of t).body) (table_of u).at) (map_put t us)
    where
      go : (v : Bool) → map (table_cut h base) (put_tabled t us) ≡ put_cut (table_cut h base t) (map (table_cut h base) us)
          → map (table_cut h base) (cond v (t ∷ (u ∷ us)) (u ∷ put_tabled t us)) ≡ cond v (cut t ∷ (cut u ∷ map (table_cut h base) us)) (cut u ∷ put_cut (cut t) (map (table_cut h base) us))
      go true again = refl
      go false again = ap (λ (cs : List Cut). cut u ∷ cs) again

  map_puts : (ts us : List Tabled) → map (table_cut h base) (put_tableds ts us) ≡ put_cuts (map (table_cut h base) ts) (map (table_cut h base) us)
  map_puts [] us = refl
  map_puts (t ∷ ts) us = map_put t (put_tableds ts us) ∙ ap (put_cut (table_cut h base t)) (map_puts ts us)

  index_cuts : (ts : List Table) → ((t : Table) → Among t ts → length (index_body h t.body) ≡ length t.body) → map (table_cut h base) (map index ts) ≡ map (λ (t : Table). cut_of_write (write_index h t)) ts
  index_cuts [] long = refl
  index_cuts (t ∷ ts) long =
      let one : cut (index t) ≡ cut_of_write (write_index h t) =
      ap (λ (n : ℕ). record { at = t.at; len = n; bytes = index_body h t.body }) (sym (long t (inl refl)))
      in
      ap (λ (c : Cut). c ∷ map (table_cut h base) (map index ts)) one ∙ ap (λ (cs : List Cut). cut_of_write (write_index h t) ∷ cs) (index_cuts ts (λ u i. long u (inr i)))

  old_cuts : (ts : List Table) → ((t : Table) → length (old_body h.place base t.body) ≡ length t.body) → map (table_cut h base) (map old ts) ≡ map (λ (t : Table). cut_of_write (write_old h base t)) ts
  old_cuts [] long = refl
  old_cuts (t ∷ ts) long =
      let one : cut (old t) ≡ cut_of_write (write_old h base t) =
      ap (λ (n : ℕ). record { at = t.at; len = n; bytes = old_body h.place base t.body }) (sym (long t))
      in
      ap (λ (c : Cut). c ∷ map (table_cut h base) (map old ts)) one ∙ ap (λ (cs : List Cut). cut_of_write (write_old h base t) ∷ cs) (old_cuts ts long)

parts : (P : Change → Type 0) (xs ys : List Change) → AllByRecursion P (xs ++ ys) → AllByRecursion P xs × AllByRecursion P ys
parts P [] ys all = (tt, all)
parts P (x ∷ xs) ys all = let r = parts P xs ys all.1 in ((all.0, r.0), r.1)

named_tables : (P : Change → Type 0) (f : Tabled → List Change) (xs : List Tabled) → AllByRecursion P (flat_map f xs) → AllByRecursion (λ x. AllByRecursion P (f x)) xs
named_tables P f [] all = tt
named_tables P f (x ∷ xs) all = let r = parts P (f x) (flat_map f xs) all in (r.0, named_tables P f xs r.1)

-- ---- of a file

module _ (o : List ℕ) (bytes : IsBytes o) (s : Supported o) where
  index_whole : (t : Table) → Among t (indexes o) → SoundIndex is_index_kind t.body
  index_whole t i = go (among_append (streams o) (flat_map (named_by o) (streams o)) t i)
    where
      go : Among t (streams o) ⊎ Among t (flat_map (named_by o) (streams o)) → SoundIndex is_index_kind t.body
      go (inl j) = among_all (λ (t : Table). SoundIndex is_index_kind t.body) (streams o) s.streams_sound t j
      go (inr j) =
          let k = named_from o bytes s t j in
          subst (λ (u : Table). SoundIndex is_index_kind u.body) k.is_named (standard_sound (named o k.place).body (named_place o bytes s t k).sound)

  -- each table stands in it
  pub tabled : AllByRecursion (IsTabled o) (tables_in o)
  tabled =
      puts_all (IsTabled o) (map old (olds o)) (map index (by_place (indexes o)))
      (all_among (IsTabled o) (map old (olds o))
      (λ x i.
      let m = among_map old (olds o) x i in
      let k = among_map stood.table_of (old_indexes (avi_of o)) m.from m.from_among in
      subst (IsTabled o) (ap old k.same ∙ m.same) (old_stands o bytes s k.from k.from_among)))
      (all_among (IsTabled o) (map index (by_place (indexes o)))
      (λ x i.
      let m = among_map index (by_place (indexes o)) x i in
      let j = from_sorted m.from (indexes o) m.from_among in
      subst (IsTabled o) m.same (index_stands o bytes s m.from j, index_whole m.from j)))

  -- and they are the model's
  pub cuts_are : (h : How) → map (table_cut h (base o)) (tables_in o) ≡ table_cuts h o
  cuts_are h =
      map_puts h (base o) (map old (olds o)) (map index (by_place (indexes o)))
      ∙ ap (λ (cs : List Cut). put_cuts cs (map (table_cut h (base o)) (map index (by_place (indexes o))))) (old_cuts h (base o) (olds o) (λ t. old_bytes o bytes s h t))
      ∙ ap (put_cuts (map (λ (t : Table). cut_of_write (write_old h (base o) t)) (olds o))) (index_cuts h (base o) (by_place (indexes o)) (λ t i. index_bytes o bytes s h t (from_sorted t (indexes o) i)))

  -- what changes of them is the file with its numbers moved
  pub renumbered_is : (ms : List Move) → AllByRecursion (IsNamed ms o) (flat_map (changes_of ms (base o)) (tables_in o))
      → splice o (map (change_cut ms o) (flat_map (changes_of ms (base o)) (tables_in o))) ≡ renumbered (move (moved ms)) o
  renumbered_is ms named =
      let h = move (moved ms) in
      tables_are ms o (base o) (tables_in o) 0 (length o) tabled (subst (λ (cs : List Cut). Ascend 0 cs (length o)) (sym (cuts_are h)) (tables_ascend o bytes s h)) named
      ∙ ap (splice o) (cuts_are h) ∙ sym (tables_spliced o bytes s h)

  -- and with spans of an edit among them, that with the tables put among the spans
  pub among_spans : (ms : List Move) (ks : List CutAt) → SpansAscend 0 ks (length o) → AllByRecursion (λ k. AllByRecursion (IsClear k) (tables_in o)) ks
      → AllByRecursion (IsNamed ms o) (flat_map (changes_of ms (base o)) (tables_in o))
      → splice o (merged ms o ks (flat_map (changes_of ms (base o)) (tables_in o))) ≡ splice o (put_cuts (table_cuts (move (moved ms)) o) (map (cut_in o) ks))
  among_spans ms ks order clear named =
      let h = move (moved ms) in
      mixed_is ms o (base o) ks (tables_in o) 0 (length o) tabled (named_tables (IsNamed ms o) (changes_of ms (base o)) (tables_in o) named) clear (subst (λ (cs : List Cut). Ascend 0 cs (length o)) (sym (cuts_are h)) (tables_ascend o bytes s h)) (ascend_in 0 (length o) ks o order)
      ∙ ap (λ (cs : List Cut). splice o (put_cuts cs (map (cut_in o) ks))) (cuts_are h)
