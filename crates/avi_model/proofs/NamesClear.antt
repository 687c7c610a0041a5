-- What is written into the tables of a supported file leaves names and padding alone, so that the spans of an edit of names stay.
use Rattle.std.proofs.Common.{◌≡◌, ℕ, ◌+◌, ◌≤◌, Bool, true, false, cond, List, [], ◌∷◌, length, drop, refl, sym, ap, subst, ◌∙◌, arith, inl, inr}
use Rattle.std.specs.Prelude.{◌⊎◌, codes}
use Rattle.std.specs.List.{flat_map, AllByRecursion}
use Rattle.container_model.specs.Chunk.{Chunk, chunks, spell}
use Rattle.container_model.specs.Sizes.{plain, riff_front}
use Rattle.container_model.specs.Stood.{Stood, bare, stood, only, first_of}
use Rattle.container_model.specs.Written.{Write, written}
use Rattle.container_model.proofs.Codec.{IsBytes-drop}
use Rattle.container_model.proofs.Fronts.{riff_gives_back}
use Rattle.container_model.proofs.Items.{same_true}
use Rattle.container_model.proofs.Moved.{riff_moves}
use Rattle.container_model.proofs.Written.{Misses, renew, head_length, written-drop, written_clear, written_chunks, chunks_written, All-of}
use Rattle.carrier_model.specs.Info.{is_type, is_padding, list_run}
use Rattle.carrier_model.specs.Names.{is_name}
use Rattle.avi_model.specs.Avi.{Avi, has_id, kids, top, hdrls, strls}
use Rattle.avi_model.specs.Named.{Names, is_hdrl, is_strl, name_cuts, ends_file}
use Rattle.avi_model.proofs.Among.{Among, Disjoint, among_all, AmongMany, among_only, first_same, stood_apart, stood_end}
use Rattle.avi_model.proofs.Clear.{all_opened, hdrl_open, strl_open}
use Rattle.avi_model.proofs.Cuts.{ends_same}
use Rattle.avi_model.proofs.Levels.{Ended, hdrl_whole, strl_whole, past_hdrl, stream_parts}
use Rattle.avi_model.proofs.Children.{FirstOpens}
use Rattle.avi_model.proofs.Lies.{InStream, Lies, Whole, body_end, kids_heads, kids_inside, list_joined}
use Rattle.avi_model.proofs.ListAgain.{SpellsAgain, KidsSpell, ChildrenSpell, first_again}
use Rattle.avi_model.proofs.NamesRenewed.{NamesAlone}
use Rattle.avi_model.proofs.NamesStay.{RunStays, KidStays, KidsStay, HdrlStays, ChildrenStay, children_cuts}
use Rattle.avi_model.proofs.Read.{renewed_avi}
use Rattle.avi_model.proofs.Tables.{Opened}
use Rattle.avi_model.proofs.Types.{padding_id}
use Rattle.avi_model.proofs.Walk.{IsRiffHead, Open, TypeStays, type_same}

-- a list that is opened is read as its chunks with the numbers, and its rest
pub run_stays : (ws : List Write) (x : Stood) → IsRiffHead x → Open ws x → RunStays ws x.at x.chunk
run_stays ws x head o =
    let c = x.chunk in
    let b = drop 4 c.body in
    let hl : x.at + head_length c ≡ x.at + 8 = omega (arith, head) in
    let at4 : (x.at + 8) + 4 ≡ x.at + 12 = omega arith in
    let body : drop 4 (renew ws x.at c).body ≡ written ws (x.at + 12) b = written-drop ws (x.at + head_length c) 4 c.body ∙ ap (λ (k : ℕ). written ws (k + 4) b) hl ∙ ap (λ (k : ℕ). written ws k b) at4 in
    ap (chunks riff_front plain) body ∙ chunks_written riff_front riff_gives_back riff_moves ws (x.at + 12) plain b (IsBytes-drop 4 c.body o.bytes) o.all_read o.on_chunks

-- and spells these
spells_again : (ws : List Write) (x : Stood) → IsRiffHead x → Open ws x → SpellsAgain ws x.at x.chunk
spells_again ws x head o =
    let c = x.chunk in
    let b = drop 4 c.body in
    let run = list_run c in
    let hl : x.at + head_length c ≡ x.at + 8 = omega (arith, head) in
    let at4 : (x.at + 8) + 4 ≡ x.at + 12 = omega arith in
    written-drop ws (x.at + head_length c) 4 c.body ∙ ap (λ (k : ℕ). written ws (k + 4) b) hl ∙ ap (λ (k : ℕ). written ws k b) at4 ∙ ap (written ws (x.at + 12)) (sym (list_joined x o.bytes))
    ∙ written_chunks ws (x.at + 12) run.chunks run.left o.on_chunks

module _ (a : Avi) (g : Ended a) (ws : List Write) (lies : AllByRecursion (λ w. Lies a w.at (length w.bytes)) ws) where
  -- ---- a stream's list

  -- a chunk that is no index holds no table
  beside_stream : (x : Stood) → Among x (strls a) → (y : Stood) → Among y (kids x) → has_id (codes "indx") y.chunk ≡ false → (p n : ℕ) → Lies a p n → (p + n ≤ y.at + 8) ⊎ (y.at + 8 + length y.chunk.body ≤ p)
  beside_stream x i y j other p n l = go (past_hdrl a g m.from m.from_among p n l)
    where
      m : AmongMany Stood Stood kids x (hdrls a)
      m = (strl_whole a g x i).0

      w : Whole x
      w = (strl_whole a g x i).2

      h : Whole m.from
      h = (hdrl_whole a g m.from m.from_among).2

      inside : (m.from.at + 12 ≤ x.at) × (stood_end x ≤ m.from.at + 8 + length m.from.chunk.body)
      inside = kids_inside m.from h.bytes h.long x m.in_it

      deep : (x.at + 12 ≤ y.at) × (stood_end y ≤ x.at + 8 + length x.chunk.body)
      deep = kids_inside x w.bytes w.long y j

      end : y.at + 8 + length y.chunk.body ≤ stood_end y
      end = body_end y (among_all IsRiffHead (kids x) (kids_heads x) y j)

      x_end : x.at + 8 + length x.chunk.body ≤ stood_end x
      x_end = body_end x w.head

      chunks_apart : (s : InStream a p n) → (s.chunk ≡ y) ⊎ Disjoint s.chunk y → (p + n ≤ y.at + 8) ⊎ (y.at + 8 + length y.chunk.body ≤ p)
      chunks_apart s (inl e) = let yes : has_id (codes "indx") y.chunk ≡ true = subst (λ (z : Stood). has_id (codes "indx") z.chunk ≡ true) e s.chunk_is in absurd cc
      chunks_apart s (inr (inl d)) = let q = stream_parts a g p n s in inl (omega (arith, d, s.high, body_end s.chunk q.6))
      chunks_apart s (inr (inr d)) = inr (omega (arith, d, s.low, end))

      lists_apart : (s : InStream a p n) → (s.strl ≡ x) ⊎ Disjoint s.strl x → (p + n ≤ y.at + 8) ⊎ (y.at + 8 + length y.chunk.body ≤ p)
      lists_apart s (inl e) = chunks_apart s (stood_apart (x.at + 12) (list_run x.chunk).chunks s.chunk y (subst (λ (z : Stood). Among s.chunk (kids z)) e s.chunk_among) j)
      lists_apart s (inr (inl d)) = let q = stream_parts a g p n s in inl (omega (arith, d, q.3, s.high, body_end s.chunk q.6, body_end s.strl q.1.head, deep.0))
      lists_apart s (inr (inr d)) = let q = stream_parts a g p n s in inr (omega (arith, d, q.2, s.low, deep.1, end, x_end))

      go : InStream a p n ⊎ ((p + n ≤ m.from.at) ⊎ (m.from.at + 8 + length m.from.chunk.body + 8 ≤ p)) → (p + n ≤ y.at + 8) ⊎ (y.at + 8 + length y.chunk.body ≤ p)
      go (inl s) =
          let e = first_same (only (is_type (codes "hdrl")) (top a)) s.hdrl m.from s.hdrl_among m.from_among in
          lists_apart s (stood_apart (m.from.at + 12) (list_run m.from.chunk).chunks s.strl x (subst (λ (z : Stood). Among s.strl (kids z)) e s.strl_among) m.in_it)
      go (inr (inl o)) = inl (omega (arith, o, inside.0, deep.0))
      go (inr (inr o)) = inr (omega (arith, o, inside.1, deep.1, end, x_end))

  untouched : (x : Stood) → Among x (strls a) → (y : Stood) → Among y (kids x) → has_id (codes "indx") y.chunk ≡ false → renew ws y.at y.chunk ≡ y.chunk
  untouched x i y j other =
      let c = y.chunk in
      let head : y.at + head_length c ≡ y.at + 8 = omega (arith, among_all IsRiffHead (kids x) (kids_heads x) y j) in
      let clear : AllByRecursion (Misses (y.at + 8) (length c.body)) ws = All-of (λ w. Lies a w.at (length w.bytes)) (Misses (y.at + 8) (length c.body)) (λ w l. miss w (beside_stream x i y j other w.at (length w.bytes) l)) ws lies in
      ap (λ (k : ℕ). record c { body = written ws k c.body }) head ∙ ap (λ (b : List ℕ). record c { body = b }) (written_clear ws (y.at + 8) c.body clear)
    where
      miss : (w : Write) → (w.at + length w.bytes ≤ y.at + 8) ⊎ (y.at + 8 + length y.chunk.body ≤ w.at) → Misses (y.at + 8) (length y.chunk.body) w
      miss w (inl q) = inl (omega (arith, q))
      miss w (inr q) = inr (omega (arith, q))

  padding_no_index : (c : Chunk) → is_padding c ≡ true → has_id (codes "indx") c ≡ false
  padding_no_index c p = rw (padding_id c p) refl

  name_no_index : (c : Chunk) → is_name c ≡ true → has_id (codes "indx") c ≡ false
  name_no_index c p = rw (same_true c.id (codes "strn") p) refl

  -- a chunk and the same without its pad
  with_pad : (at : ℕ) (c : Chunk) → renew ws at (bare c) ≡ bare c → renew ws at c ≡ c
  with_pad at c e = ap (λ (d : Chunk). record c { body = d.body }) e

  pub names_alone : (x : Stood) → Among x (strls a) → (at : ℕ) (cs : List Chunk) → ((y : Stood) → Among y (stood at cs) → Among y (kids x)) → NamesAlone ws at cs
  names_alone x i at [] h = tt
  names_alone x i at (c ∷ cs) h =
      let y : Stood = record { at = at; chunk = bare c } in (
        ((λ p. with_pad at c (untouched x i y (h y (inl refl)) (padding_no_index c p))), (λ p. with_pad at c (untouched x i y (h y (inl refl)) (name_no_index c p)))),
        names_alone x i (at + length (spell c)) cs (λ z k. h z (inr k)),
      )

  -- ---- hdrl

  module _ (e : Names) where
    op : Opened a [] ws
    op = all_opened a g ws lies []

    kids_stay : (x : Stood) → Among x (hdrls a) → (at : ℕ) (cs : List Chunk) → ((y : Stood) → Among y (stood at cs) → Among y (kids x)) → ((y : Stood) → Among y (only is_strl (stood at cs)) → Among y (strls a)) → KidsStay ws e at cs
    kids_stay x i at [] h k = tt
    kids_stay x i at (c ∷ cs) h k = (one, kids_stay x i (at + length (spell c)) cs (λ z j. h z (inr j)) (λ z j. k z (further (is_strl c) z j)))
      where
        y : Stood
        y = record { at = at; chunk = bare c }

        rest : List Stood
        rest = only is_strl (stood (at + length (spell c)) cs)

        further : (b : Bool) (z : Stood) → Among z (only is_strl (stood (at + length (spell c)) cs)) → Among z (cond b (record { at = at; chunk = bare c } ∷ only is_strl (stood (at + length (spell c)) cs)) (only is_strl (stood (at + length (spell c)) cs)))
        further true z j = inr j
        further false z j = j

        in_hdrl : Among y (flat_map kids (hdrls a))
        in_hdrl = Rattle.avi_model.proofs.Among.flat_among kids (hdrls a) x y i (h y (inl refl))

        one : KidStays ws e at c
        one = record {
          typed = type_same (codes "strl") (λ q. q) ws y (among_all IsRiffHead (kids x) (kids_heads x) y (h y (inl refl))) (among_all (TypeStays ws) (flat_map kids (hdrls a)) op.hdrl_types y in_hdrl);
          opens = λ t.
              let j : Among y (strls a) = k y (subst (λ (b : Bool). Among y (cond b (y ∷ rest) rest)) (sym t) (inl refl)) in
              let w = (strl_whole a g y j).2 in
              (run_stays ws y w.head (strl_open a g ws lies y j), (names_alone y j (at + 12) (list_run c).chunks (λ z l. l), w.long));
        }

    in_strls : (x : Stood) → Among x (hdrls a) → (y : Stood) → Among y (only is_strl (kids x)) → Among y (strls a)
    in_strls x i y j =
        let z = among_only is_strl (kids x) y j in
        Rattle.avi_model.proofs.Among.only_among is_strl (flat_map kids (hdrls a)) y (Rattle.avi_model.proofs.Among.flat_among kids (hdrls a) x y i z.0) z.1

    hdrl_stays : (x : Stood) → Among x (hdrls a) → HdrlStays ws e x.at x.chunk
    hdrl_stays x i =
        let w = (hdrl_whole a g x i).2 in
        record {
          run = run_stays ws x w.head (hdrl_open a g ws lies x i);
          long = w.long;
          kids = kids_stay x i (x.at + 12) (list_run x.chunk).chunks (λ y j. j) (λ y j. in_strls x i y j);
        }

    -- ---- the first form

    pub children_stay : (at : ℕ) (cs : List Chunk) → ((y : Stood) → Among y (stood at cs) → Among y (top a)) → ((y : Stood) → Among y (first_of (only is_hdrl (stood at cs))) → Among y (hdrls a)) → ChildrenStay ws e at cs
    children_stay at [] h k = tt
    children_stay at (c ∷ cs) h k = (
      type_same (codes "hdrl") (λ q. q) ws y (among_all IsRiffHead (top a) op.top_heads y (h y (inl refl))) (among_all (TypeStays ws) (top a) op.top_types y (h y (inl refl))),
      (
        (λ t.
            let z = hdrl_stays y (k y (subst (λ (b : Bool). Among y (first_of (cond b (y ∷ rest) rest))) (sym t) (inl refl))) in
            record { run = z.run; long = z.long; kids = z.kids }),
        (λ t. children_stay (at + length (spell c)) cs (λ z j. h z (inr j)) (λ z j. k z (subst (λ (b : Bool). Among z (first_of (cond b (y ∷ rest) rest))) (sym t) j))),
      ),
    )
      where
        y : Stood
        y = record { at = at; chunk = bare c }

        rest : List Stood
        rest = only is_hdrl (stood (at + length (spell c)) cs)

    -- The spans of an edit of names are the same, whatever numbers are written.
    pub names_cuts_stay : name_cuts (renewed_avi ws a) e ≡ name_cuts a e
    names_cuts_stay =
        ap (λ (t : Bool). flat_map (Rattle.avi_model.specs.Named.hdrl_cuts e) (Rattle.avi_model.specs.Named.hdrl_from t 12 (renewed_avi ws a).children)) (ends_same ws a)
        ∙ children_cuts ws e (ends_file a) 12 a.children (children_stay 12 a.children (λ y j. j) (λ y j. j))

    -- ---- what is opened is spelled again

    kids_spell : (at : ℕ) (cs : List Chunk) → ((y : Stood) → Among y (only is_strl (stood at cs)) → Among y (strls a)) → KidsSpell ws e at cs
    kids_spell at [] k = tt
    kids_spell at (c ∷ cs) k = (
      (λ t. let j = k y (subst (λ (b : Bool). Among y (cond b (y ∷ rest) rest)) (sym t) (inl refl)) in spells_again ws y (strl_whole a g y j).2.head (strl_open a g ws lies y j)),
      kids_spell (at + length (spell c)) cs (λ z j. k z (further (is_strl c) z j)),
    )
      where
        y : Stood
        y = record { at = at; chunk = bare c }

        rest : List Stood
        rest = only is_strl (stood (at + length (spell c)) cs)

        further : (b : Bool) (z : Stood) → Among z (only is_strl (stood (at + length (spell c)) cs)) → Among z (cond b (record { at = at; chunk = bare c } ∷ only is_strl (stood (at + length (spell c)) cs)) (only is_strl (stood (at + length (spell c)) cs)))
        further true z j = inr j
        further false z j = j

    children_spell : (at : ℕ) (cs : List Chunk) → ((y : Stood) → Among y (first_of (only is_hdrl (stood at cs))) → Among y (hdrls a)) → ChildrenSpell ws e at cs
    children_spell at [] k = tt
    children_spell at (c ∷ cs) k = (
      (λ t.
          let j = k y (subst (λ (b : Bool). Among y (first_of (cond b (y ∷ rest) rest))) (sym t) (inl refl)) in
          (spells_again ws y (hdrl_whole a g y j).2.head (hdrl_open a g ws lies y j), kids_spell (at + 12) (list_run c).chunks (λ z l. in_strls y j z l))),
      (λ t. children_spell (at + length (spell c)) cs (λ z j. k z (subst (λ (b : Bool). Among z (first_of (cond b (y ∷ rest) rest))) (sym t) j))),
    )
      where
        y : Stood
        y = record { at = at; chunk = bare c }

        rest : List Stood
        rest = only is_hdrl (stood (at + length (spell c)) cs)

    -- The chunks with the numbers are chunks of a first form.
    pub first_opens_again : FirstOpens a.children → FirstOpens (renewed_avi ws a).children
    first_opens_again h = first_again ws e 12 a.children h (children_stay 12 a.children (λ y j. j) (λ y j. j)) (children_spell 12 a.children (λ y j. j))
