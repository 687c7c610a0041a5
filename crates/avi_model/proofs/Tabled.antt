-- Numbers that are written are the bodies of the tables replaced, by place.
use Rattle.std.proofs.Common.{◌≡◌, ℕ, ◌+◌, ◌-◌, ◌≤◌, Bool, true, false, cond, leb, List, [], ◌∷◌, ◌++◌, length, map, take, drop, refl, sym, ap, subst, ◌∙◌, arith, inl, inr}
use Rattle.std.specs.Prelude.{◌⊎◌}
use Rattle.std.specs.List.{AllByRecursion}
use Rattle.std.proofs.lemmas.Bool.{leb-true, ltb-false, leb-false}
use Rattle.std.proofs.lemmas.List.{drop-drop, length-drop, length-take, take-append-drop}
use Rattle.container_model.specs.Splice.{Cut, end_of, splice, splice_from, Ascend}
use Rattle.container_model.specs.Stood.{Stood}
use Rattle.container_model.specs.Written.{Write, written}
use Rattle.container_model.proofs.Codec.{IsBytes}
use Rattle.container_model.proofs.Written.{Misses, written-append, written_clear, written_own}
use Rattle.avi_model.specs.Avi.{avi_of, old_indexes}
use Rattle.container_model.specs.Tables.{Table, table_of}
use Rattle.opendml_index.specs.Index.{How, index_body}
use Rattle.avi_model.specs.Index.{writes, renumbered, write_index, write_old, base, indexes}
use Rattle.avi_model.specs.Support.{Supported, by_place, Apart}
use Rattle.avi_model.specs.NewFile.{cut_of_write, put_cut, put_cuts, table_cuts}
use Rattle.avi_model.proofs.Among.{Among, all_among, among_all, among_map, map_among}
use Rattle.avi_model.proofs.Sorted.{among_sorted, from_sorted}
use Rattle.avi_model.proofs.Sound.{index_sound, index_apart, index_bytes, old_bytes, writes_of, Writes, of_index, of_old, owns_index, owns_old}
use Rattle.avi_model.proofs.Stands.{index_stands, old_ends}

-- ---- writes as spans that are replaced

-- a range that touches no span
abbrev Apart_from : ℕ → ℕ → Cut → Type 0
Apart_from p n c = (p + n ≤ c.at) ⊎ (end_of c ≤ p)

-- what is written where the span stands are its bytes
abbrev Owned : List Write → Cut → Type 0
Owned ws c = (y : List ℕ) → length y ≡ c.len → written ws c.at y ≡ c.bytes

pub ascend_end : (from end : ℕ) (cs : List Cut) → Ascend from cs end → from ≤ end
ascend_end from end [] a = a
ascend_end from end (c ∷ cs) a = omega (arith, a.0, ascend_end (end_of c) end cs a.1)

low_apart : (from end p n : ℕ) (cs : List Cut) → Ascend from cs end → p + n ≤ from → AllByRecursion (Apart_from p n) cs
low_apart from end p n [] a h = tt
low_apart from end p n (c ∷ cs) a h = (inl (omega (arith, a.0, h)), low_apart (end_of c) end p n cs a.1 (omega (arith, a.0, h)))

written_spliced : (ws : List Write) (at : ℕ) (b : List ℕ) (cs : List Cut) → Ascend at cs (at + length b) → AllByRecursion (Owned ws) cs
    → ((p n : ℕ) → at ≤ p → AllByRecursion (Apart_from p n) cs → AllByRecursion (Misses p n) ws) → written ws at b ≡ splice_from at b cs
written_spliced ws at b [] a o clear = written_clear ws at b (clear at (length b) (omega arith) tt)
written_spliced ws at b (c ∷ cs) a o clear =
    let k = c.at - at in
    let end = at + length b in
    let up = ascend_end (end_of c) end cs a.1 in
    let one = take k b in
    let more = drop k b in
    let two = take c.len more in
    let rest = drop (end_of c - at) b in
    let one_long : length one ≡ k = omega (arith, length-take k b, up, a.0) in
    let two_long : length two ≡ c.len = omega (arith, length-take c.len more, length-drop k b, up, a.0) in
    let rest_is : drop c.len more ≡ rest = drop-drop c.len k b ∙ ap (λ (n : ℕ). drop n b) (omega (arith, a.0)) in
    let split : b ≡ one ++ (two ++ rest) = sym (take-append-drop k b) ∙ ap (λ (x : List ℕ). one ++ x) (sym (take-append-drop c.len more) ∙ ap (λ (x : List ℕ). two ++ x) rest_is) in
    let place : at + length one ≡ c.at = omega (arith, one_long, a.0) in
    let next : c.at + length two ≡ end_of c = omega (arith, two_long) in
    let same_end : end_of c + length rest ≡ end = omega (arith, length-drop (end_of c - at) b, up, a.0) in
    let front : written ws at one ≡ one = written_clear ws at one (clear at (length one) (omega arith) (inl (omega (arith, place)), low_apart (end_of c) end at (length one) cs a.1 (omega (arith, place)))) in
    let again = written_spliced ws (end_of c) rest cs (subst (Ascend (end_of c) cs) (sym same_end) a.1) o.1 (λ p n low h. clear p n (omega (arith, low, a.0)) (inr low, h)) in
    ap (written ws at) split ∙ written-append ws at one (two ++ rest) ∙ ap (λ (x : List ℕ). x ++ written ws (at + length one) (two ++ rest)) front ∙ ap (λ (q : ℕ). one ++ written ws q (two ++ rest)) place
    ∙ ap (λ (x : List ℕ). one ++ x) (written-append ws c.at two rest ∙ ap (λ (x : List ℕ). x ++ written ws (c.at + length two) rest) (o.0 two two_long) ∙ ap (λ (q : ℕ). c.bytes ++ written ws q rest) next ∙ ap (λ (x : List ℕ). c.bytes ++ x) again)

-- ---- a span put among others

pub put_ascends : (c : Cut) (from end : ℕ) (ds : List Cut) → Ascend from ds end → from ≤ c.at → end_of c ≤ end → AllByRecursion (λ d. (end_of c ≤ d.at) ⊎ (end_of d ≤ c.at)) ds → Ascend from (put_cut c ds) end
put_ascends c from end [] a low high h = (low, high)
put_ascends c from end (d ∷ ds) a low high h = go (leb (end_of c) d.at) refl h.0 (λ l. put_ascends c (end_of d) end ds a.1 l high h.1)
  where
    go : (t : Bool) → leb (end_of c) d.at ≡ t → (end_of c ≤ d.at) ⊎ (end_of d ≤ c.at) → (end_of d ≤ c.at → Ascend (end_of d) (put_cut c ds) end) → Ascend from (cond t (c ∷ (d ∷ ds)) (d ∷ put_cut c ds)) end
    go true e s again = (low, (leb-true (end_of c) d.at e, a.1))
    go false e (inl l) again = absurd (omega (arith, l, leb-false (end_of c) d.at e))
    go false e (inr l) again = (a.0, again l)

pub put_all : (P : Cut → Type 0) (c : Cut) (ds : List Cut) → P c → AllByRecursion P ds → AllByRecursion P (put_cut c ds)
put_all P c [] p h = (p, tt)
put_all P c (d ∷ ds) p h = go (leb (end_of c) d.at) (put_all P c ds p h.1)
  where
    go : (t : Bool) → AllByRecursion P (put_cut c ds) → AllByRecursion P (cond t (c ∷ (d ∷ ds)) (d ∷ put_cut c ds))
    go true again = (p, h)
    go false again = (h.0, again)

all_put : (P : Cut → Type 0) (c : Cut) (ds : List Cut) → AllByRecursion P (put_cut c ds) → P c × AllByRecursion P ds
all_put P c [] h = h
all_put P c (d ∷ ds) h = go (leb (end_of c) d.at) h (λ g. all_put P c ds g)
  where
    go : (t : Bool) → AllByRecursion P (cond t (c ∷ (d ∷ ds)) (d ∷ put_cut c ds)) → (AllByRecursion P (put_cut c ds) → P c × AllByRecursion P ds) → P c × AllByRecursion P (d ∷ ds)
    go true h again = h
    go false h again = let z = again h.1 in (z.0, (h.0, z.1))

-- ---- the tables of a supported file

first_few : (xs : List Stood) → length (Rattle.container_model.specs.Stood.first_of xs) ≤ 1
first_few [] = omega arith
first_few (x ∷ xs) = omega arith

one_old : (o : List ℕ) → length (old_indexes (avi_of o)) ≤ 1
one_old o = first_few (Rattle.container_model.specs.Stood.only (Rattle.avi_model.specs.Avi.has_id (Rattle.std.specs.Prelude.codes "idx1")) (Rattle.avi_model.specs.Avi.top (avi_of o)))

module _ (o : List ℕ) (bytes : IsBytes o) (s : Supported o) (how : How) where
  abbrev ws : List Write
  ws = writes how o

  abbrev index_cut : Table → Cut
  index_cut t = cut_of_write (write_index how t)

  abbrev old_cut : Table → Cut
  old_cut t = cut_of_write (write_old how (base o) t)

  abbrev by : List Cut
  by = map index_cut (by_place (indexes o))

  index_is_long : (t : Table) → Among t (indexes o) → length (index_body how t.body) ≡ length t.body
  index_is_long t i = index_bytes o bytes s how t i

  -- an index chunk's body lies in the file
  index_ends : (t : Table) → Among t (indexes o) → t.at + length t.body ≤ length o
  index_ends t i =
      let n = length t.body in
      let some = (index_sound o bytes s t i).whole.header_there in
      let is = ap length (index_stands o bytes s t i) in
      omega (arith, some, is, length-take n (drop t.at o), length-drop t.at o)

  indexes_ascend : (from : ℕ) (ts : List Table) → Apart from ts → from ≤ length o → ((t : Table) → Among t ts → Among t (indexes o)) → Ascend from (map index_cut ts) (length o)
  indexes_ascend from [] a l is = l
  indexes_ascend from (t ∷ ts) a l is =
      let i = is t (inl refl) in
      let long = index_is_long t i in
      let again = indexes_ascend (t.at + length t.body) ts a.1 (index_ends t i) (λ u j. is u (inr j)) in
      (omega (arith, ltb-false t.at (from + 8) a.0), subst (λ (n : ℕ). Ascend (t.at + n) (map index_cut ts) (length o)) (sym long) again)

  all_index : (P : Cut → Type 0) → ((t : Table) → Among t (indexes o) → P (index_cut t)) → AllByRecursion P by
  all_index P h = all_among P by (λ c i. let m = among_map index_cut (by_place (indexes o)) c i in subst P m.same (h m.from (from_sorted m.from (indexes o) m.from_among)))

  -- with the first idx1
  abbrev With : List Stood → Type 0
  With xs = (x : Stood) → Among x xs → Among x (old_indexes (avi_of o))

  old_is_long : (x : Stood) → length (write_old how (base o) (table_of x)).bytes ≡ length x.chunk.body
  old_is_long x = old_bytes o bytes s how (table_of x)

  put_index : (P : Cut → Type 0) → ((x : Stood) → Among x (old_indexes (avi_of o)) → P (old_cut (table_of x))) → (xs : List Stood) → With xs → AllByRecursion P by → AllByRecursion P (put_cuts (map old_cut (map table_of xs)) by)
  put_index P h [] w b = b
  put_index P h (x ∷ xs) w b = put_all P (old_cut (table_of x)) (put_cuts (map old_cut (map table_of xs)) by) (h x (w x (inl refl))) (put_index P h xs (λ y j. w y (inr j)) b)

  -- what holds of each table's span
  pub all_tables : (P : Cut → Type 0) → ((t : Table) → Among t (indexes o) → P (index_cut t)) → ((x : Stood) → Among x (old_indexes (avi_of o)) → P (old_cut (table_of x))) → AllByRecursion P (table_cuts how o)
  all_tables P h k = put_index P k (old_indexes (avi_of o)) (λ x i. i) (all_index P h)

  -- each of the cuts owns its range
  owned : AllByRecursion (Owned ws) (table_cuts how o)
  owned =
      put_index (Owned ws) (λ x i y l. let w = write_old how (base o) (table_of x) in let h = owns_old o bytes s how x i in written_own w ws y h.is_there h.alone l) (old_indexes (avi_of o)) (λ x i. i)
      (all_index (Owned ws) (λ t i y l. let w = write_index how t in let h = owns_index o bytes s how t i in written_own w ws y h.is_there h.alone l))

  -- what touches no cut is touched by no write
  old_all : (P : Cut → Type 0) (xs : List Stood) → AllByRecursion P (put_cuts (map old_cut (map table_of xs)) by) → AllByRecursion (λ x. P (old_cut (table_of x))) xs × AllByRecursion P by
  old_all P [] h = (tt, h)
  old_all P (x ∷ xs) h = let z = all_put P (old_cut (table_of x)) (put_cuts (map old_cut (map table_of xs)) by) h in let r = old_all P xs z.1 in ((z.0, r.0), r.1)

  clear : (p n : ℕ) → 0 ≤ p → AllByRecursion (Apart_from p n) (table_cuts how o) → AllByRecursion (Misses p n) ws
  clear p n low h = all_among (Misses p n) ws (λ w i. go w (writes_of o bytes s how w i))
    where
      parts : AllByRecursion (λ x. Apart_from p n (old_cut (table_of x))) (old_indexes (avi_of o)) × AllByRecursion (Apart_from p n) by
      parts = old_all (Apart_from p n) (old_indexes (avi_of o)) h

      turn : (w : Write) → Apart_from p n (cut_of_write w) → Misses p n w
      turn w (inl l) = inr l
      turn w (inr l) = inl l

      go : (w : Write) → Writes o bytes s how w → Misses p n w
      go w (of_index t i e) = subst (Misses p n) e (turn (write_index how t) (among_all (Apart_from p n) by parts.1 (index_cut t) (map_among index_cut (by_place (indexes o)) t (among_sorted t (indexes o) i))))
      go w (of_old x i e) = subst (Misses p n) e (turn (write_old how (base o) (table_of x)) (among_all (λ x. Apart_from p n (old_cut (table_of x))) (old_indexes (avi_of o)) parts.0 x i))

  index_order : Ascend 0 by (length o)
  index_order = indexes_ascend 0 (by_place (indexes o)) s.indexes_apart (omega arith) (λ t i. from_sorted t (indexes o) i)

  -- The tables ascend.
  pub tables_ascend : Ascend 0 (table_cuts how o) (length o)
  tables_ascend = go (old_indexes (avi_of o)) (λ x i. i) (one_old o)
    where
      go : (xs : List Stood) → With xs → length xs ≤ 1 → Ascend 0 (put_cuts (map old_cut (map table_of xs)) by) (length o)
      go [] w l = index_order
      go (x ∷ []) w l =
          let i = w x (inl refl) in
          put_ascends (old_cut (table_of x)) 0 (length o) by index_order (omega arith) (omega (arith, old_is_long x, old_ends o bytes s x i))
          (all_index (λ d. (end_of (old_cut (table_of x)) ≤ d.at) ⊎ (end_of d ≤ x.at + 8)) (λ t j. side x t j (index_apart o bytes s x i t.at (length t.body) (index_sound o bytes s t j).lies)))
        where
          side : (x : Stood) (t : Table) → Among t (indexes o) → (t.at + length t.body ≤ x.at) ⊎ (x.at + 8 + length x.chunk.body ≤ t.at) → (end_of (old_cut (table_of x)) ≤ t.at) ⊎ (end_of (index_cut t) ≤ x.at + 8)
          side x t j (inl h) = inr (omega (arith, h, index_is_long t j))
          side x t j (inr h) = inl (omega (arith, h, old_is_long x))
      go (x ∷ (y ∷ xs)) w l = absurd (omega arith)

  -- The numbers that are written are the tables replaced.
  pub tables_spliced : renumbered how o ≡ splice o (table_cuts how o)
  tables_spliced = let e : 0 + length o ≡ length o = omega arith in written_spliced ws 0 o (table_cuts how o) (subst (Ascend 0 (table_cuts how o)) (sym e) tables_ascend) owned clear
