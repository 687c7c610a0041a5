-- What is written into tables touches no header, no pad, no type, no rest and no list of fields.
use Rattle.std.proofs.Common.{◌≡◌, ℕ, ◌+◌, ◌≤◌, true, List, [], ◌∷◌, length, refl, sym, ap, subst, arith, inl, inr}
use Rattle.std.specs.Prelude.{◌⊎◌, codes}
use Rattle.std.specs.Str.{bytes_eq}
use Rattle.std.specs.List.{flat_map, AllByRecursion}
use Rattle.std.proofs.lemmas.List.{length-append}
use Rattle.container_model.specs.Chunk.{Chunk, spell, spell_all}
use Rattle.container_model.specs.Stood.{Stood, bare, stood}
use Rattle.container_model.specs.Written.{Write}
use Rattle.container_model.proofs.Written.{Misses, write_end, Avoids, All-of}
use Rattle.container_model.proofs.Avoids.{InBody, avoids_in, avoids_before, avoids_behind}
use Rattle.carrier_model.specs.Info.{list_run}
use Rattle.avi_model.specs.Avi.{Avi, inner, kids, others_at, hdrls, strls}
use Rattle.avi_model.proofs.Read.{others_place, Frames}
use Rattle.avi_model.proofs.Tables.{Opened}
use Rattle.avi_model.proofs.Again.{TypesStay}
use Rattle.avi_model.proofs.Walk.{IsRiffHead, Open, TypeStays}
use Rattle.avi_model.proofs.Among.{Among, all_among, among_all, among_flat, stood_inside, stood_apart, Disjoint}
use Rattle.avi_model.proofs.Lies.{Level, kids_heads, body_end, Lies}
use Rattle.avi_model.proofs.Levels.{Ended, hdrl_whole, strl_whole, further_whole, top_heads, level_top, level_others, level_hdrl, level_strl, level_further, in_top, InTop, top_end_of, others_begin, top_end, further_deep}

-- ---- one level

in_body : (at : ℕ) (cs : List Chunk) (x : Stood) (w : Write) → Among x (stood at cs) → AllByRecursion IsRiffHead (stood at cs) → x.at + 8 ≤ w.at → write_end w ≤ x.at + 8 + length x.chunk.body → InBody at cs w
in_body at [] x w i h low high = absurd i
in_body at (c ∷ cs) x w (inl e) h low high =
    let at_is : x.at ≡ at = ap (λ (y : Stood). y.at) (sym e) in
    let len : length x.chunk.body ≡ length c.body = ap (λ (y : Stood). length y.chunk.body) (sym e) in
    inl (omega (arith, h.0, at_is, low), omega (arith, h.0, at_is, len, high))
in_body at (c ∷ cs) x w (inr i) h low high = inr (in_body (at + length (spell c)) cs x w i h.1 low high)

pub level_avoids : (at : ℕ) (cs : List Chunk) (left : List ℕ) (w : Write) → AllByRecursion IsRiffHead (stood at cs) → Level at cs left w.at (length w.bytes) → Avoids at cs left w
level_avoids at cs left w h (inl s) = avoids_in at cs left w (in_body at cs s.holder w s.holder_among h s.low s.high)
level_avoids at cs left w h (inr (inl e)) = avoids_behind at cs left w e
level_avoids at cs left w h (inr (inr e)) = avoids_before at cs left w (omega (arith, e))

-- the type of a list isn't written
level_type : (at : ℕ) (cs : List Chunk) (left : List ℕ) (w : Write) → AllByRecursion IsRiffHead (stood at cs) → Level at cs left w.at (length w.bytes)
    → (x : Stood) → Among x (stood at cs) → bytes_eq x.chunk.id (codes "LIST") ≡ true ⊎ ((y : Stood) → Among y (stood at cs) → y.at + 8 ≤ w.at → write_end w ≤ y.at + 8 + length y.chunk.body → y.at + 12 ≤ w.at) → Misses (x.at + 8) 4 w
level_type at cs left w h (inl s) x i list = go (stood_apart at cs s.holder x s.holder_among i) list
  where
    low : s.holder.at + 8 ≤ w.at
    low = s.low

    high : write_end w ≤ s.holder.at + 8 + length s.holder.chunk.body
    high = s.high

    go : (s.holder ≡ x) ⊎ Disjoint s.holder x → bytes_eq x.chunk.id (codes "LIST") ≡ true ⊎ ((y : Stood) → Among y (stood at cs) → y.at + 8 ≤ w.at → write_end w ≤ y.at + 8 + length y.chunk.body → y.at + 12 ≤ w.at) → Misses (x.at + 8) 4 w
    go (inl e) (inl t) = let b = s.behind_type (subst (λ (y : Stood). bytes_eq y.chunk.id (codes "LIST") ≡ true) (sym e) t) in let same : s.holder.at ≡ x.at = ap (λ (y : Stood). y.at) e in inr (omega (arith, b, same))
    go (inl e) (inr t) = let b = t s.holder s.holder_among low high in let same : s.holder.at ≡ x.at = ap (λ (y : Stood). y.at) e in inr (omega (arith, b, same))
    go (inr (inl d)) t = inl (omega (arith, d, high, body_end s.holder (among_all IsRiffHead (stood at cs) h s.holder s.holder_among)))
    go (inr (inr d)) t = inr (omega (arith, d, low, body_end x (among_all IsRiffHead (stood at cs) h x i)))
level_type at cs left w h (inr (inl e)) x i list = inl (omega (arith, e, (stood_inside at cs x i).0))
level_type at cs left w h (inr (inr e)) x i list =
    inr (omega (arith, e, (stood_inside at cs x i).1, length-append (spell_all cs) left, body_end x (among_all IsRiffHead (stood at cs) h x i)))

-- ---- all levels

module _ (a : Avi) (g : Ended a) (ws : List Write) (lies : AllByRecursion (λ w. Lies a w.at (length w.bytes)) ws) where
  -- each write is at each level in one body
  levels : (at : ℕ) (cs : List Chunk) (left : List ℕ) → ((p n : ℕ) → Lies a p n → Level at cs left p n) → AllByRecursion (λ w. Level at cs left w.at (length w.bytes)) ws
  levels at cs left f = All-of (λ w. Lies a w.at (length w.bytes)) (λ w. Level at cs left w.at (length w.bytes)) (λ w l. f w.at (length w.bytes) l) ws lies

  all_avoid : (at : ℕ) (cs : List Chunk) (left : List ℕ) → AllByRecursion IsRiffHead (stood at cs) → ((p n : ℕ) → Lies a p n → Level at cs left p n) → AllByRecursion (Avoids at cs left) ws
  all_avoid at cs left h f = All-of (λ w. Level at cs left w.at (length w.bytes)) (Avoids at cs left) (λ w l. level_avoids at cs left w h l) ws (levels at cs left f)

  all_types : (at : ℕ) (cs : List Chunk) (left : List ℕ) → AllByRecursion IsRiffHead (stood at cs) → ((p n : ℕ) → Lies a p n → Level at cs left p n) → AllByRecursion (TypeStays ws) (stood at cs)
  all_types at cs left h f =
      all_among (TypeStays ws) (stood at cs)
      (λ x i t. All-of (λ w. Level at cs left w.at (length w.bytes)) (Misses (x.at + 8) 4) (λ w l. level_type at cs left w h l x i (inl t)) ws (levels at cs left f))

  pub hdrl_open : (x : Stood) → Among x (hdrls a) → Open ws x
  hdrl_open x i =
      let w = (hdrl_whole a g x i).2 in
      record { bytes = w.bytes; long = w.long; all_read = w.all_read; on_chunks = all_avoid (x.at + 12) (list_run x.chunk).chunks (list_run x.chunk).left (kids_heads x) (λ p n l. level_hdrl a g x i p n l) }

  pub strl_open : (x : Stood) → Among x (strls a) → Open ws x
  strl_open x i =
      let w = (strl_whole a g x i).2 in
      record { bytes = w.bytes; long = w.long; all_read = w.all_read; on_chunks = all_avoid (x.at + 12) (list_run x.chunk).chunks (list_run x.chunk).left (kids_heads x) (λ p n l. level_strl a g x i p n l) }

  pub further_open : (x : Stood) → Among x (others_at a) → Open ws x
  further_open x i =
      let w = further_whole a g x i in
      record { bytes = w.bytes; long = w.long; all_read = w.all_read; on_chunks = all_avoid (x.at + 12) (list_run x.chunk).chunks (list_run x.chunk).left (kids_heads x) (λ p n l. level_further a g x i p n l) }

  pub further_types : (x : Stood) → Among x (others_at a) → AllByRecursion (TypeStays ws) (kids x)
  further_types x i = all_types (x.at + 12) (list_run x.chunk).chunks (list_run x.chunk).left (kids_heads x) (λ p n l. level_further a g x i p n l)

  hdrl_kids : (P : Stood → Type 0) → ((x : Stood) → Among x (hdrls a) → AllByRecursion P (kids x)) → AllByRecursion P (flat_map kids (hdrls a))
  hdrl_kids P f = all_among P (flat_map kids (hdrls a)) (λ y i. let m = among_flat kids (hdrls a) y i in among_all P (kids m.from) (f m.from m.from_among) y m.in_it)

  -- what is opened, and what no write touches
  pub all_opened : (e : Rattle.avi_model.specs.NewFile.Items) → Opened a e ws
  all_opened e = record {
    top_heads = top_heads a g;
    top_types = all_types 12 a.children a.left (top_heads a g) (λ p n l. level_top a g p n l);
    hdrl_opens = all_among (Open ws) (hdrls a) hdrl_open;
    hdrl_heads = hdrl_kids IsRiffHead (λ x i. kids_heads x);
    hdrl_types = hdrl_kids (TypeStays ws) (λ x i. all_types (x.at + 12) (list_run x.chunk).chunks (list_run x.chunk).left (kids_heads x) (λ p n l. level_hdrl a g x i p n l));
    strl_opens = all_among (Open ws) (strls a) strl_open;
  }

  on_one : (P : Write → Type 0) → ((w : Write) → Lies a w.at (length w.bytes) → P w) → AllByRecursion P ws
  on_one P f = All-of (λ w. Lies a w.at (length w.bytes)) P f ws lies

  heads_others : AllByRecursion IsRiffHead (others_at a)
  heads_others = all_among IsRiffHead (others_at a) (λ x i. (further_whole a g x i).head)

  pub all_frames : Frames ws a
  all_frames = record {
    on_head = on_one (Misses 0 12) (λ w l. head w (in_top a g w.at (length w.bytes) l));
    on_children = all_avoid 12 a.children a.left (top_heads a g) (λ p n l. level_top a g p n l);
    on_pad = on_one (Misses (8 + length (inner a.children a.left)) (length a.pad)) (λ w l. pad w (in_top a g w.at (length w.bytes) l));
    on_others = all_avoid (others_place a) a.others a.tail heads_others (λ p n l. level_others a g p n l);
  }
    where
      head : (w : Write) → InTop a g w.at (length w.bytes) ⊎ (others_place a + 8 ≤ w.at) → Misses 0 12 w
      head w (inl s) = inr (omega (arith, (top_end_of a g w.at (length w.bytes) s).0))
      head w (inr h) = inr (omega (arith, h, others_begin a g))

      pad : (w : Write) → InTop a g w.at (length w.bytes) ⊎ (others_place a + 8 ≤ w.at) → Misses (8 + length (inner a.children a.left)) (length a.pad) w
      pad w (inl s) = inl (omega (arith, (top_end_of a g w.at (length w.bytes) s).1, top_end a g))
      pad w (inr h) = inr (omega (arith, h, others_begin a g))

  -- the types of the further forms
  pub all_further : TypesStay ws (others_place a) a.others
  all_further = go (others_place a) a.others (λ x i. of x i)
    where
      of : (x : Stood) → Among x (others_at a) → AllByRecursion (Misses (x.at + 8) 4) ws
      of x i =
          All-of (λ w. Lies a w.at (length w.bytes)) (Misses (x.at + 8) 4)
          (λ w l. level_type (others_place a) a.others a.tail w heads_others (level_others a g w.at (length w.bytes) l) x i (inr (λ y j low high. further_deep a g w.at (length w.bytes) l y j low high))) ws lies

      go : (at : ℕ) (cs : List Chunk) → ((x : Stood) → Among x (stood at cs) → AllByRecursion (Misses (x.at + 8) 4) ws) → TypesStay ws at cs
      go at [] h = tt
      go at (c ∷ cs) h = (h (record { at = at; chunk = bare c }) (inl refl), go (at + length (spell c)) cs (λ x i. h x (inr i)))
