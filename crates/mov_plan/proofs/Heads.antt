-- The headers that a plan widens are those of the definitions, by the tables and atoms that it is told.
use Rattle.std.proofs.Common.{◌≡◌, ◌∙◌, ℕ, zero, suc, ◌+◌, ◌-◌, ◌*◌, ◌≤◌, ◌<◌, Bool, true, false, cond, List, [], ◌∷◌, ◌++◌, length, map, take, refl, sym, ap, subst, arith, inl, inr, append-nil}
use Rattle.std.specs.Prelude.{◌&&◌, ◌||◌, ◌⊎◌, not, codes, is_some, nat_lt, slice_index_or, sum_by}
use Rattle.std.specs.Str.{bytes_eq}
use Rattle.std.specs.List.{AllByRecursion, flat_map}
use Rattle.std.proofs.lemmas.Bool.{and_parts, cases_lt, le-ltb, lt-ltb}
use Rattle.std.proofs.lemmas.List.Concat.{flat_map-append}
use Rattle.std.proofs.lemmas.List.Sums.{sum_by-cons}
use Rattle.me_bytes.specs.Bytes.{IsBytes}
use Rattle.part_tree.specs.declared.names.FourCc.{FourCc}
use Rattle.container_model.specs.Atoms.{atoms_in, is}
use Rattle.container_model.specs.Chunk.{Chunk, Form, header_bytes, spell, spell_all}
use Rattle.container_model.specs.Cuts.{cuts_with}
use Rattle.container_model.specs.Splice.{Ascend, Cut, end_of}
use Rattle.container_model.specs.Walk.{Step, along, body_at, chunk_at, end_at, walk}
use Rattle.container_model.proofs.Items.{same_true}
use Rattle.container_model.proofs.Walk.{all_join, all_parts, sound_to}
use Rattle.mov_model.specs.Atoms.{Place, dinf, either, file, format, mdia, minf, moov, stbl, trak, user_data, when}
use Rattle.mov_model.specs.Carried.{Changes}
use Rattle.mov_model.specs.Cuts.{RowTable, row_tables, step_tables}
use Rattle.mov_model.specs.Movie.{Movie, movie_of}
use Rattle.mov_model.specs.New.{edit_cuts, ends_file, fill, kids_at, whole_pieces}
use Rattle.mov_model.specs.Reading.{inside_at, inside_steps, kid_steps, moov_steps, row}
use Rattle.mov_model.specs.Support.{Readable}
use Rattle.mov_model.specs.WideCuts.{head_cut, row_growth, wide_kid_cuts}
use Rattle.mov_model.proofs.Again.{kids, kids_bytes}
use Rattle.mov_model.proofs.Kids.{KidOk, kids_ok}
use Rattle.mov_model.proofs.Steps.{AtomFine, StepFine, low_prefix}
use Rattle.mov_model.proofs.Why.{kids_supported}
use Rattle.qt_atoms.proofs.Steps.{header_length}
use Rattle.qt_atoms.specs.Walk.{form_of, header_len}
use Rattle.qt_atoms.specs.declared.walker.AtomAt.{AtomAt}
use Rattle.qt_text.specs.User.{udta}
use Rattle.unit_plan.specs.Cuts.{cut_in}
use Rattle.mov_plan.specs.Holders.{TablesAscend, begun_by, grown_by, grown_within, head_in, kind_after}
use Rattle.mov_plan.specs.Moved.{IsKeptIn}
use Rattle.mov_plan.specs.Planned.{AreEach, AreHolders, AreTables, HolderAt, IsHolder, holder_met, holds_by}
use Rattle.mov_plan.specs.Tables.{rows_of}
use Rattle.mov_plan.specs.declared.tables.TableAt.{TableAt}
use Rattle.mov_plan.proofs.Among.{all_among, among}
use Rattle.mov_plan.proofs.Lying.{rows_inside}
use Rattle.mov_plan.proofs.Mixed.{all_weaken, map-both, mixed, rows_behind, rows_up_to}
use Rattle.mov_plan.proofs.Stepping.{InOrder, Rise, along_order, grown_to, order_rise, to_none, walk_order}
use Rattle.mov_plan.proofs.Rowed.{wide_row}
use Rattle.mov_plan.proofs.Strewn.{kid_heads, slots_blended}
use Rattle.mov_plan.proofs.WideSteps.{Among, along_heads, grown_from, heads_told, law_heads, plan_heads}

-- ---- what tables grow by

pub growth_is : (t : TableAt) → row_growth (rows_of t) ≡ grown_by t
growth_is t = go t.wide
  where
    go : (w : Bool) → (8 - (Rattle.mov_plan.specs.Tables.width_of w).bytes) * t.rows ≡ cond w 0 (4 * t.rows)
    go true = omega arith
    go false = omega arith

pub growths_are : (ts : List TableAt) → sum_by grown_by ts ≡ sum_by row_growth (map rows_of ts)
growths_are [] = refl
growths_are (t ∷ ts) = omega (arith, sum_by-cons grown_by t ts, sum_by-cons row_growth (rows_of t) (map rows_of ts), growth_is t, growths_are ts)

at_of : (p : ℕ) (ts : List TableAt) → AllByRecursion (λ (r : RowTable). p ≤ r.at) (map rows_of ts) → (j : ℕ) (d : TableAt) → j < length ts → p ≤ (slice_index_or ts j d).at
at_of p [] h j d lt = absurd (omega (arith, lt))
at_of p (t ∷ ts) h zero d lt = h.0
at_of p (t ∷ ts) h (suc j) d lt = at_of p ts h.1 j d (omega (arith, lt))

rise_ascend : (ts : List TableAt) → Rise (map rows_of ts) → (i j : ℕ) (d : TableAt) → i ≤ j → j < length ts → (slice_index_or ts i d).at ≤ (slice_index_or ts j d).at
rise_ascend [] h i j d le lt = absurd (omega (arith, lt))
rise_ascend (t ∷ ts) h zero zero d le lt = omega arith
rise_ascend (t ∷ ts) h zero (suc j) d le lt = at_of t.at ts h.0 j d (omega (arith, lt))
rise_ascend (t ∷ ts) h (suc i) zero d le lt = absurd (omega (arith, le))
rise_ascend (t ∷ ts) h (suc i) (suc j) d le lt = rise_ascend ts h.1 i j d (omega (arith, le)) (omega (arith, lt))

-- what those grow by that begin before a place
begun_is : (p : ℕ) (ts : List TableAt) → Rise (map rows_of ts) → sum_by grown_by (take (begun_by p ts) ts) ≡ grown_to p (map rows_of ts)
begun_is p [] h = refl
begun_is p (t ∷ ts) h = go (cases_lt t.at p) (begun_is p ts h.1)
  where
    go : (t.at < p) ⊎ (p ≤ t.at) → sum_by grown_by (take (begun_by p ts) ts) ≡ grown_to p (map rows_of ts) → sum_by grown_by (take (begun_by p (t ∷ ts)) (t ∷ ts)) ≡ grown_to p (map rows_of (t ∷ ts))
    go (inl lt) again =
        let yes_lt = lt-ltb t.at p lt in
        let one_more : 1 + begun_by p ts ≡ suc (begun_by p ts) = omega arith in
        let more : sum_by grown_by (take (begun_by p (t ∷ ts)) (t ∷ ts)) ≡ sum_by grown_by (t ∷ take (begun_by p ts) ts)
        = ap (λ (u : Bool). sum_by grown_by (take (cond u (1 + begun_by p ts) 0) (t ∷ ts))) yes_lt ∙ ap (λ (k : ℕ). sum_by grown_by (take k (t ∷ ts))) one_more in
        let here : cond (nat_lt t.at p) (row_growth (rows_of t)) 0 ≡ row_growth (rows_of t) = ap (λ (u : Bool). cond u (row_growth (rows_of t)) 0) yes_lt in
        omega (
          arith,
          more,
          sum_by-cons grown_by t (take (begun_by p ts) ts),
          sum_by-cons (λ (r : RowTable). cond (nat_lt r.at p) (row_growth r) 0) (rows_of t) (map rows_of ts),
          here,
          growth_is t,
          again,
        )
    go (inr le) again =
        let none : sum_by grown_by (take (begun_by p (t ∷ ts)) (t ∷ ts)) ≡ 0 = ap (λ (u : Bool). sum_by grown_by (take (cond u (1 + begun_by p ts) 0) (t ∷ ts))) (le-ltb t.at p le) in
        let all = all_weaken (λ (r : RowTable). t.at ≤ r.at) (λ (r : RowTable). p ≤ r.at) (λ r x. omega (arith, x, le)) (map rows_of ts) h.0 in
        none ∙ sym (to_none p (map rows_of (t ∷ ts)) (le, all))

-- ---- one header

-- an atom that holds tables has a type of four bytes
named_four : (id name : List ℕ) → bytes_eq id name ≡ true → length name ≡ 4 → length id ≡ 4
named_four id name e k = ap length (same_true id name e) ∙ k

is_when : (t : Bool) (p : Place) → is_some (when t p) ≡ true → t ≡ true
is_when true p e = refl
is_when false p e = absurd cc

holder_four : (p : Place) (c : Chunk) → holds_by p c ≡ true → length c.id ≡ 4
holder_four stbl c e = named_four c.id (codes "stco") e refl
holder_four moov c e = named_four c.id (codes "trak") (is_when (bytes_eq c.id (codes "trak")) trak e) refl
holder_four trak c e = named_four c.id (codes "mdia") (is_when (bytes_eq c.id (codes "mdia")) mdia e) refl
holder_four mdia c e = named_four c.id (codes "minf") (is_when (bytes_eq c.id (codes "minf")) minf e) refl
holder_four minf c e = go (bytes_eq c.id (codes "stbl")) (bytes_eq c.id (codes "dinf")) refl refl e
  where
    go : (t u : Bool) → bytes_eq c.id (codes "stbl") ≡ t → bytes_eq c.id (codes "dinf") ≡ u → is_some (either t stbl (when u dinf)) ≡ true → length c.id ≡ 4
    go true u i j e = named_four c.id (codes "stbl") i refl
    go false true i j e = named_four c.id (codes "dinf") j refl
    go false false i j e = absurd cc
holder_four file c e = absurd cc
holder_four user_data c e = absurd cc
holder_four dinf c e = absurd cc

abbrev cut_by : ℕ → ℕ → List ℕ → Cut
cut_by a l x = record { at = a; len = l; bytes = x }

cut_same : (a b l k : ℕ) (x y : List ℕ) → a ≡ b → l ≡ k → x ≡ y → cut_by a l x ≡ cut_by b k y
cut_same a b l k x y e f g =
    ap (λ (n : ℕ). cut_by n l x) e ∙ ap (λ (n : ℕ). cut_by b n x) f ∙ ap (cut_by b k) g

module _ (b : List ℕ) (ts : List TableAt) where
  abbrev all : List RowTable
  all = map rows_of ts

  -- the header of an atom
  abbrev held_cut : HolderAt → Cut
  held_cut h = head_cut h.at h.atom (kind_after h.atom.id) (length h.atom.body + grown_from (map rows_of ts) h.at (h.at + length (spell h.atom)))

  module _ (rise : Rise (map rows_of ts)) where
    head_is : (h : HolderAt) (k : AtomAt) → length h.atom.id ≡ 4 → IsHolder h k → cut_in b (head_in ts k) ≡ held_cut h
    head_is h k four is =
        let now = grown_within k.at k.next ts in
        let n = length h.atom.body + grown_from (map rows_of ts) h.at (h.at + length (spell h.atom)) in
        let ends : grown_to k.next (map rows_of ts) ≡ grown_to (h.at + length (spell h.atom)) (map rows_of ts) = ap (λ (p : ℕ). grown_to p (map rows_of ts)) is.next in
        let starts : grown_to k.at (map rows_of ts) ≡ grown_to h.at (map rows_of ts) = ap (λ (p : ℕ). grown_to p (map rows_of ts)) is.at in
        let grows : k.body.len + now ≡ n = omega (arith, is.body, begun_is k.at ts rise, begun_is k.next ts rise, ends, starts) in
        let kind : kind_after k.kind.0 ≡ kind_after h.atom.id = ap (λ (x : FourCc). kind_after x.0) is.kind in
        let old : header_len k.form ≡ length (header_bytes h.atom.form h.atom.id (length h.atom.body))
        = sym (header_length k.form h.atom.id (length h.atom.body) four) ∙ ap (λ (g : Form). length (header_bytes g h.atom.id (length h.atom.body))) is.form in
        cut_same k.at h.at (header_len k.form) (length (header_bytes h.atom.form h.atom.id (length h.atom.body)))
        (header_bytes (form_of k.form) (kind_after k.kind.0) (k.body.len + now) ++ []) (header_bytes h.atom.form (kind_after h.atom.id) n)
        is.at old
        (append-nil (header_bytes (form_of k.form) (kind_after k.kind.0) (k.body.len + now))
        ∙ ap (λ (g : Form). header_bytes g (kind_after k.kind.0) (k.body.len + now)) is.form
        ∙ ap (λ (id : List ℕ). header_bytes h.atom.form id (k.body.len + now)) kind
        ∙ ap (λ (j : ℕ). header_bytes h.atom.form (kind_after h.atom.id) j) grows)

    each_head : (hs : List HolderAt) (ks : List AtomAt) → AllByRecursion (λ (h : HolderAt). length h.atom.id ≡ 4) hs → AreEach hs ks → map (cut_in b) (map (head_in ts) ks) ≡ map held_cut hs
    each_head [] [] f is = refl
    each_head [] (k ∷ ks) f is = absurd is
    each_head (h ∷ hs) [] f is = absurd is
    each_head (h ∷ hs) (k ∷ ks) f is =
        ap (λ (x : Cut). x ∷ map (cut_in b) (map (head_in ts) ks)) (head_is h k f.0 is.0) ∙ ap (λ (xs : List Cut). held_cut h ∷ xs) (each_head hs ks f.1 is.1)

  -- ---- of steps

  met_four : (s : Step Place) → AllByRecursion (λ (h : HolderAt). length h.atom.id ≡ 4) (holder_met s)
  met_four (chunk_at p at c) = go (holds_by p c) refl
    where
      go : (t : Bool) → holds_by p c ≡ t → AllByRecursion (λ (h : HolderAt). length h.atom.id ≡ 4) (cond t (record { at = at; atom = c } ∷ []) [])
      go true e = (holder_four p c e, tt)
      go false e = tt
  met_four (end_at p at stop) = tt

  all_four : (ss : List (Step Place)) → AllByRecursion (λ (h : HolderAt). length h.atom.id ≡ 4) (flat_map holder_met ss)
  all_four [] = tt
  all_four (s ∷ ss) = all_join (λ (h : HolderAt). length h.atom.id ≡ 4) (holder_met s) (flat_map holder_met ss) (met_four s) (all_four ss)

  met_heads : (s : Step Place) → map held_cut (holder_met s) ≡ plan_heads (map rows_of ts) s
  met_heads (chunk_at p at c) = go (holds_by p c)
    where
      go : (t : Bool) → map held_cut (cond t (record { at = at; atom = c } ∷ []) []) ≡ cond t (head_cut at c (kind_after c.id) (length c.body + grown_from (map rows_of ts) at (at + length (spell c))) ∷ []) []
      go true = refl
      go false = refl
  met_heads (end_at p at stop) = refl

  steps_heads : (ss : List (Step Place)) → map held_cut (flat_map holder_met ss) ≡ flat_map (plan_heads (map rows_of ts)) ss
  steps_heads [] = refl
  steps_heads (s ∷ ss) =
      map-both held_cut (holder_met s) (flat_map holder_met ss) ∙ ap (λ (x : List Cut). x ++ map held_cut (flat_map holder_met ss)) (met_heads s)
      ∙ ap (λ (x : List Cut). plan_heads (map rows_of ts) s ++ x) (steps_heads ss)

-- ---- in moov

module _ (all : List RowTable) where
  abbrev kid_plan : ℕ → Chunk → List Cut
  kid_plan at c = flat_map (plan_heads all) (walk format 5 moov at c)

  no_plan : (at : ℕ) (c : Chunk) → is c (codes "trak") ≡ false → kid_plan at c ≡ []
  unfolding walk
  no_plan at c n = rw n refl

  row_plan : (at : ℕ) (cs : List Chunk) (rest : List (Step Place)) → flat_map (plan_heads all) (row user_data at cs ++ rest) ≡ flat_map (plan_heads all) rest
  row_plan at [] rest = refl
  row_plan at (c ∷ cs) rest = row_plan (at + length (spell c)) cs rest

  plan_of_kid : (t : Bool) (at : ℕ) (c : Chunk) → (t ≡ true → is c (codes "trak") ≡ false) → flat_map (plan_heads all) (kid_steps t at c) ≡ kid_plan at c
  plan_of_kid true at c plain =
      flat_map-append (plan_heads all) (chunk_at moov at c ∷ []) (row user_data (body_at at c) (udta.opening c).chunks ++ end_at user_data (body_at at c + length (spell_all (udta.opening c).chunks)) (udta.opening c).stop ∷ [])
      ∙ ap (λ (x : List Cut). flat_map (plan_heads all) (chunk_at moov at c ∷ []) ++ x) (row_plan (body_at at c) (udta.opening c).chunks (end_at user_data (body_at at c + length (spell_all (udta.opening c).chunks)) (udta.opening c).stop ∷ []))
      ∙ ap (λ (x : List Cut). x ++ []) (none (plain refl)) ∙ sym (no_plan at c (plain refl))
    where
      none : is c (codes "trak") ≡ false → flat_map (plan_heads all) (chunk_at moov at c ∷ []) ≡ []
      none n = rw n refl
  plan_of_kid false at c plain = refl

  plan_inside : (seen : Bool) (at : ℕ) (cs : List Chunk) → flat_map (plan_heads all) (inside_steps seen at cs) ≡ along kid_plan at cs
  plan_inside seen at [] = refl
  plan_inside seen at (c ∷ cs) =
      let t = not seen && udta.is c in
      let rest = inside_steps (seen || udta.is c) (at + length (spell c)) cs in
      flat_map-append (plan_heads all) (kid_steps t at c) rest
      ∙ ap (λ (x : List Cut). x ++ flat_map (plan_heads all) rest) (plan_of_kid t at c (λ e. rw (same_true c.id (codes "udta") (and_parts (not seen) (udta.is c) e).1) refl))
      ∙ ap (λ (x : List Cut). kid_plan at c ++ x) (plan_inside (seen || udta.is c) (at + length (spell c)) cs)

-- what is told of each step, atom by atom
flat_along : {X Y : Type 0} (h : X → List Y) (w : ℕ → Chunk → List X) (at : ℕ) (cs : List Chunk) → flat_map h (along w at cs) ≡ along (λ at c. flat_map h (w at c)) at cs
flat_along h w at [] = refl
flat_along {Y = Y} h w at (c ∷ cs) =
    flat_map-append h (w at c) (along w (at + length (spell c)) cs) ∙ ap (λ (x : List Y). flat_map h (w at c) ++ x) (flat_along h w (at + length (spell c)) cs)

fine_along : (at : ℕ) (cs : List Chunk) → AllByRecursion KidOk cs → AllByRecursion StepFine (along (walk format 5 moov) at cs)
fine_along at [] k = tt
fine_along at (c ∷ cs) k = all_join StepFine (walk format 5 moov at c) (along (walk format 5 moov) (at + length (spell c)) cs) (sound_to format AtomFine low_prefix 5 moov at c k.0.1.0) (fine_along (at + length (spell c)) cs k.1)

-- what holds of all spans and rows holds of the spans
mixed_all : (P : Cut → Type 0) (g : RowTable → Cut) (ks : List Cut) (rs : List RowTable) → AllByRecursion P (mixed g ks rs) → AllByRecursion P ks
mixed_all P g [] rs h = tt
mixed_all P g (k ∷ ks) rs h =
    let q = all_parts P (map g (rows_up_to k.at rs)) (k ∷ mixed g ks (rows_behind k.at rs)) h in
    (q.1.0, mixed_all P g ks (rows_behind k.at rs) q.1.1)

among_rest : (P : Cut → Type 0) (u : Cut) (ks : List Cut) → AllByRecursion P (among u ks) → AllByRecursion P ks
among_rest P u [] h = tt
among_rest P u (k ∷ ks) h = go (nat_lt k.at u.at) h (among_rest P u ks)
  where
    go : (t : Bool) → AllByRecursion P (cond t (k ∷ among u ks) (u ∷ (k ∷ ks))) → (AllByRecursion P (among u ks) → AllByRecursion P ks) → AllByRecursion P (k ∷ ks)
    go true h again = (h.0, again h.1)
    go false h again = h.1

among_all : (P : Cut → Type 0) (us ks : List Cut) → AllByRecursion P (all_among us ks) → AllByRecursion P ks
among_all P [] ks h = h
among_all P (u ∷ us) ks h = among_all P us ks (among_rest P u (all_among us ks) h)

ascend_inside : (low high : ℕ) (cs : List Cut) → Ascend low cs high → (low ≤ high) × AllByRecursion (λ (c : Cut). (low ≤ c.at) × (end_of c ≤ high)) cs
ascend_inside low high [] h = (h, tt)
ascend_inside low high (c ∷ cs) h =
    let r = ascend_inside (end_of c) high cs h.1 in
    (omega (arith, h.0, r.0), ((h.0, r.0), all_weaken (λ (x : Cut). (end_of c ≤ x.at) × (end_of x ≤ high)) (λ (x : Cut). (low ≤ x.at) × (end_of x ≤ high)) (λ x z. (omega (arith, z.0, h.0), z.1)) cs r.1))

-- ---- of a supported movie

module _ (b : List ℕ) (ts : List TableAt) (bytes : IsBytes b) (sup : Readable b) (e : Changes) (told : AreTables b ts) where
  abbrev m : Movie
  m = movie_of b

  abbrev ks : List Chunk
  ks = kids b bytes sup

  abbrev here : ℕ
  here = kids_at m e

  abbrev steps : List (Step Place)
  steps = along (walk format 5 moov) here ks

  rows_are : row_tables b ≡ flat_map step_tables steps
  rows_are =
      flat_map-append step_tables (inside_steps false (inside_at m) ks) _
      ∙ append-nil (flat_map step_tables (inside_steps false (inside_at m) ks))
      ∙ rows_inside false (inside_at m) ks
      ∙ sym (flat_along step_tables (walk format 5 moov) here ks)

  fine : AllByRecursion StepFine steps
  fine = fine_along here ks (kids_ok ks (kids_supported b sup))

  order : InOrder here steps (here + length (spell_all ks))
  order = along_order (walk format 5 moov) (λ at c x y. walk_order 5 moov at c x y) here ks (kids_bytes b bytes sup) fine

  pub tables_rise : Rise (map rows_of ts)
  tables_rise = subst Rise (sym (told ∙ rows_are)) (order_rise here (here + length (spell_all ks)) steps order)

  -- the tables stand one behind the other
  pub tables_ascend : TablesAscend ts
  tables_ascend = λ i j d le lt. rise_ascend ts tables_rise i j d le lt

  -- what they grow by
  pub growth_told : sum_by grown_by ts ≡ sum_by row_growth (row_tables b)
  growth_told = growths_are ts ∙ ap (sum_by row_growth) told

  -- The headers of a plan are those of the definitions.
  pub heads_are : (hs : List AtomAt) → AreHolders b hs → map (cut_in b) (map (head_in ts) hs) ≡ along kid_heads here ks
  heads_are hs are =
      let all = map rows_of ts in
      let stop = end_at moov (inside_at m + length (spell_all (atoms_in m.movie).chunks)) (atoms_in m.movie).stop in
      let inner = inside_steps false (inside_at m) ks in
      let among : Among all here steps (here + length (spell_all ks))
      = record { before = []; behind = []; are = told ∙ rows_are ∙ sym (append-nil (flat_map step_tables steps)); ends = tt; grow = tt; begins = tt } in
      let same : flat_map (plan_heads all) steps ≡ flat_map law_heads steps
      = along_heads all (walk format 5 moov) (λ at c x y. walk_order 5 moov at c x y) (λ at c x y z. heads_told all 5 moov at c (omega arith) x y z) here ks (kids_bytes b bytes sup) fine among in
      each_head b ts tables_rise (flat_map holder_met (moov_steps m)) hs (all_four b ts (moov_steps m)) are
      ∙ steps_heads b ts (moov_steps m)
      ∙ flat_map-append (plan_heads all) inner (stop ∷ [])
      ∙ append-nil (flat_map (plan_heads all) inner)
      ∙ plan_inside all false (inside_at m) ks
      ∙ sym (flat_along (plan_heads all) (walk format 5 moov) here ks)
      ∙ same
      ∙ flat_along law_heads (walk format 5 moov) here ks

  -- The slots of the units among these headers and the rows are the spans of the edit behind the header of moov.
  pub wide_mixed : (hs : List AtomAt) → AreHolders b hs → (f : ℕ → ℕ)
      → mixed (wide_row f b) (all_among (edit_cuts m e) (map (cut_in b) (map (head_in ts) hs))) (row_tables b) ≡ cuts_with (wide_kid_cuts f) (fill (ends_file m e)) (kids_at m e) (whole_pieces m e)
  wide_mixed hs are f = ap (λ (x : List Cut). mixed (wide_row f b) (all_among (edit_cuts m e) x) (row_tables b)) (heads_are hs are) ∙ slots_blended f b bytes sup e

  -- the headers lie in the file where the spans of the edit do
  pub heads_kept : (hs : List AtomAt) → AreHolders b hs → (f : ℕ → ℕ) (low high : ℕ) → Ascend low (cuts_with (wide_kid_cuts f) (fill (ends_file m e)) (kids_at m e) (whole_pieces m e)) high → AllByRecursion (IsKeptIn high) (map (head_in ts) hs)
  heads_kept hs are f low high up =
      let P : Cut → Type 0 = λ c. (low ≤ c.at) × (end_of c ≤ high) in
      let heads = map (cut_in b) (map (head_in ts) hs) in
      let inside = (ascend_inside low high (cuts_with (wide_kid_cuts f) (fill (ends_file m e)) (kids_at m e) (whole_pieces m e)) up).1 in
      let each : AllByRecursion P (all_among (edit_cuts m e) heads)
      = mixed_all P (wide_row f b) (all_among (edit_cuts m e) heads) (row_tables b) (subst (AllByRecursion P) (sym (wide_mixed hs are f)) inside) in
      each_kept hs (among_all P (edit_cuts m e) heads each)
    where
      each_kept : (hs : List AtomAt) → AllByRecursion (λ (c : Cut). (low ≤ c.at) × (end_of c ≤ high)) (map (cut_in b) (map (head_in ts) hs)) → AllByRecursion (IsKeptIn high) (map (head_in ts) hs)
      each_kept [] h = tt
      each_kept (k ∷ hs) h = ((omega arith, h.0.1), each_kept hs h.1)
