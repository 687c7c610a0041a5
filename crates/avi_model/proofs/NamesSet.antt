-- An edit of the names of a supported file's streams.
use Rattle.std.proofs.Common.{◌≡◌, ℕ, ◌+◌, ◌^◌, ◌<◌, ◌≤◌, Bool, true, false, cond, List, [], ◌∷◌, ◌++◌, length, map, drop, refl, sym, ap, subst, ◌∙◌, arith, inl, inr}
use Rattle.std.specs.Prelude.{◌&&◌, filter, not, codes}
use Rattle.std.specs.List.{flat_map}
use Rattle.std.proofs.lemmas.List.{append-nil}
use Rattle.me_bytes.specs.Bytes.{IsBytes}
use Rattle.container_model.specs.Chunk.{Chunk, Run, spell, spell_all}
use Rattle.container_model.specs.Items.{is_nil}
use Rattle.container_model.specs.Stood.{Stood, bare, stood, only, first_of}
use Rattle.container_model.proofs.Plain.{ArePlain, plain_again}
use Rattle.container_model.proofs.Stood.{first_map}
use Rattle.container_model.proofs.Copied.{moved_to}
use Rattle.container_model.specs.Splice.{shift}
use Rattle.carrier_model.specs.Info.{list_run}
use Rattle.avi_model.specs.Avi.{avi_of, has_id, kids, top, is_movi}
use Rattle.avi_model.specs.Heads.{Head, head_of, head_with, nth_names}
use Rattle.avi_model.specs.Named.{Names, is_strl, is_hdrl, ends_file, hdrl_named, children_named, named, name_cuts}
use Rattle.avi_model.specs.NamesSet.{NamesSet}
use Rattle.avi_model.specs.Support.{Supported}
use Rattle.avi_model.proofs.Among.{Among}
use Rattle.avi_model.proofs.Children.{HdrlSmall, Opens, FirstOpens, AreChildren, behind_one, kids_of, children_plain, children_pads, children_seen, children_block, children_follow, all_small, streams_follow, moves_with}
use Rattle.avi_model.proofs.Levels.{Ended, hdrl_whole, strl_whole}
use Rattle.container_model.specs.Sizes.{plain, riff_front}
use Rattle.container_model.proofs.Codec.{IsBytes-drop, chunks_pads}
use Rattle.container_model.proofs.Fronts.{riff_gives_back}
use Rattle.avi_model.proofs.Lies.{Whole, list_joined}
use Rattle.avi_model.proofs.NamesSpliced.{children_spliced}
use Rattle.avi_model.proofs.Respelled.{IsList, list_plain, list_type, list_length}
use Rattle.avi_model.proofs.Sound.{ended}
use Rattle.avi_model.proofs.Streams.{AreKids, after, kids_names, hdrl_run, head_placed}
use Rattle.avi_model.proofs.Types.{type_is}

-- ---- what is opened in a supported file

list_of : (x : Stood) (c : Chunk) → x.chunk ≡ bare c → Rattle.container_model.proofs.Plain.IsPlain c → Whole x → IsList c
list_of x c e p w =
    let bytes : IsBytes c.body = subst (λ (d : Chunk). IsBytes d.body) e w.bytes in
    record {
      form_is = p.form_is;
      long = subst (λ (d : Chunk). 4 ≤ length d.body) e w.long;
      all_read = subst (λ (d : Chunk). (list_run d).stop ≡ Rattle.container_model.specs.Chunk.ends) e w.all_read;
      pads = chunks_pads riff_front riff_gives_back plain (drop 4 c.body) (IsBytes-drop 4 c.body bytes);
      spelled = list_joined (record { at = 0; chunk = c }) bytes;
    }

kids_are : (at : ℕ) (cs : List Chunk) → ArePlain cs → ((y : Stood) → Among y (only is_strl (stood at cs)) → Whole y) → AreKids cs
kids_are at [] p h = tt
kids_are at (c ∷ cs) p h = (
  record { plain = p.0; opens = λ i. list_of x c refl p.0 (h x (subst (λ (b : Bool). Among x (cond b (x ∷ rest) rest)) (sym i) (inl refl))) },
  kids_are (at + length (spell c)) cs p.1 (λ y j. h y (further (is_strl c) y j)),
)
  where
    x : Stood
    x = record { at = at; chunk = bare c }

    rest : List Stood
    rest = only is_strl (stood (at + length (spell c)) cs)

    further : (b : Bool) (y : Stood) → Among y (only is_strl (stood (at + length (spell c)) cs)) → Among y (cond b (record { at = at; chunk = bare c } ∷ only is_strl (stood (at + length (spell c)) cs)) (only is_strl (stood (at + length (spell c)) cs)))
    further true y j = inr j
    further false y j = j

first_opens : (at : ℕ) (cs : List Chunk) → ArePlain cs → ((x : Stood) → Among x (first_of (only is_hdrl (stood at cs))) → Whole x)
    → ((y : Stood) → Among y (only is_strl (flat_map kids (first_of (only is_hdrl (stood at cs))))) → Whole y) → FirstOpens cs
first_opens at [] p h k = tt
first_opens at (c ∷ cs) p h k = (
  here,
  λ i. first_opens (at + length (spell c)) cs p.1 (λ x j. h x (subst (λ (b : Bool). Among x (first_of (cond b (record { at = at; chunk = bare c } ∷ only is_hdrl (stood (at + length (spell c)) cs)) (only is_hdrl (stood (at + length (spell c)) cs))))) (sym i) j))
      (λ y j. k y (subst (λ (b : Bool). Among y (only is_strl (flat_map kids (first_of (cond b (record { at = at; chunk = bare c } ∷ only is_hdrl (stood (at + length (spell c)) cs)) (only is_hdrl (stood (at + length (spell c)) cs))))))) (sym i) j)),
)
  where
    here : is_hdrl c ≡ true → Opens c
    here i =
        let x : Stood = record { at = at; chunk = bare c } in
        let rest = only is_hdrl (stood (at + length (spell c)) cs) in (
          list_of x c refl p.0 (h x (subst (λ (b : Bool). Among x (first_of (cond b (x ∷ rest) rest))) (sym i) (inl refl))),
          kids_are (at + 12) (list_run c).chunks (list_plain c)
              (λ y j. k y (subst (λ (b : Bool). Among y (only is_strl (flat_map kids (first_of (cond b (x ∷ rest) rest))))) (sym i) (subst (λ (xs : List Stood). Among y (only is_strl xs)) (sym (append-nil (kids x))) j))),
        )

pub supported_children : (b : List ℕ) → IsBytes b → Supported b → AreChildren (avi_of b).children
supported_children b bytes s =
    let g : Ended (avi_of b) = ended b bytes s in
    (g.readable.plain_chunks, first_opens 12 (avi_of b).children g.readable.plain_chunks (λ x i. (hdrl_whole (avi_of b) g x i).2) (λ y i. (strl_whole (avi_of b) g y i).2))

-- ---- the streams

module _ (e : Names) where
  -- the streams' lists in the first hdrl
  abbrev strls_of : List Stood → List Stood
  strls_of xs = only is_strl (flat_map kids (first_of (only is_hdrl xs)))

  -- how small the chunks of hdrl are
  pub kids_small : (ends_too : Bool) (c : Chunk) → IsList c → length (hdrl_named e ends_too c).body < 2 ^ 32 → length (spell_all (kids_of e ends_too c)) < 2 ^ 32
  kids_small ends_too c is lt = omega (arith, lt, list_length c (kids_of e ends_too c) is)

  pub children_names : (ends_too : Bool) (at to : ℕ) (cs : List Chunk) → AreChildren cs → HdrlSmall e ends_too cs → (m : ℕ) → m < length (strls_of (stood at cs))
      → nth_names m (strls_of (stood to (children_named e ends_too cs))) ≡ after e m (nth_names m (strls_of (stood at cs)))
  children_names ends_too at to [] h lt m less = absurd (omega arith)
  children_names ends_too at to (c ∷ cs) h lt m less = go (is_hdrl c) refl less (λ i k. children_names ends_too (at + length (spell c)) (to + length (spell c)) cs (behind_one c cs h i) (lt.1 i) m k)
    where
      go : (t : Bool) → is_hdrl c ≡ t → m < length (only is_strl (flat_map kids (first_of (cond t (record { at = at; chunk = bare c } ∷ only is_hdrl (stood (at + length (spell c)) cs)) (only is_hdrl (stood (at + length (spell c)) cs))))))
          → (is_hdrl c ≡ false → m < length (strls_of (stood (at + length (spell c)) cs)) → nth_names m (strls_of (stood (to + length (spell c)) (children_named e ends_too cs))) ≡ after e m (nth_names m (strls_of (stood (at + length (spell c)) cs))))
          → nth_names m (strls_of (stood to (cond t (hdrl_named e (ends_too && is_nil cs) c ∷ cs) (c ∷ children_named e ends_too cs))))
          ≡ after e m (nth_names m (only is_strl (flat_map kids (first_of (cond t (record { at = at; chunk = bare c } ∷ only is_hdrl (stood (at + length (spell c)) cs)) (only is_hdrl (stood (at + length (spell c)) cs)))))))
      go true i less again =
          let o = h.1.0 i in
          let new = hdrl_named e (ends_too && is_nil cs) c in
          let ks = (list_run c).chunks in
          let x : Stood = record { at = at; chunk = bare c } in
          let y : Stood = record { at = to; chunk = bare new } in
          let typed : is_hdrl new ≡ true = list_type (codes "hdrl") c (kids_of e (ends_too && is_nil cs) c) o.0 ∙ i in
          let small = kids_small (ends_too && is_nil cs) c o.0 (lt.0 i) in
          let one : strls_of (stood to (new ∷ cs)) ≡ only is_strl (kids y) = ap (λ (b : Bool). only is_strl (flat_map kids (first_of (cond b (y ∷ only is_hdrl (stood (to + length (spell new)) cs)) (only is_hdrl (stood (to + length (spell new)) cs)))))) typed ∙ ap (only is_strl) (append-nil (kids y)) in
          let read : only is_strl (kids y) ≡ only is_strl (stood (to + 12) (kids_of e (ends_too && is_nil cs) c)) = ap (λ (r : Run). only is_strl (stood (to + 12) r.chunks)) (hdrl_run e (ends_too && is_nil cs) c o.0 o.1 small) in
          let old : only is_strl (kids x ++ []) ≡ only is_strl (kids x) = ap (only is_strl) (append-nil (kids x)) in
          let z : 0 + m ≡ m = omega arith in
          ap (nth_names m) (one ∙ read) ∙ kids_names e ((ends_too && is_nil cs) && Rattle.avi_model.specs.Named.ends_list c) 0 (at + 12) (to + 12) ks o.1 small m (omega (arith, less, ap length old))
          ∙ ap (λ (k : ℕ). after e k (nth_names m (only is_strl (kids x)))) z ∙ ap (λ (xs : List Stood). after e m (nth_names m xs)) (sym old)
      go false i less again =
          let more = children_named e ends_too cs in
          ap (λ (b : Bool). nth_names m (only is_strl (flat_map kids (first_of (cond b (record { at = to; chunk = bare c } ∷ only is_hdrl (stood (to + length (spell c)) more)) (only is_hdrl (stood (to + length (spell c)) more))))))) i
          ∙ again i less

  pub children_heads : (ends_too : Bool) (at to : ℕ) (cs : List Chunk) → AreChildren cs → HdrlSmall e ends_too cs
      → map (λ (x : Stood). head_of x.chunk) (first_of (only is_hdrl (stood to (children_named e ends_too cs)))) ≡ map (λ (x : Stood). head_with e (head_of x.chunk)) (first_of (only is_hdrl (stood at cs)))
  children_heads ends_too at to [] h lt = refl
  children_heads ends_too at to (c ∷ cs) h lt = go (is_hdrl c) refl (λ i. children_heads ends_too (at + length (spell c)) (to + length (spell c)) cs (behind_one c cs h i) (lt.1 i))
    where
      go : (t : Bool) → is_hdrl c ≡ t
          → (is_hdrl c ≡ false → map (λ (x : Stood). head_of x.chunk) (first_of (only is_hdrl (stood (to + length (spell c)) (children_named e ends_too cs)))) ≡ map (λ (x : Stood). head_with e (head_of x.chunk)) (first_of (only is_hdrl (stood (at + length (spell c)) cs))))
          → map (λ (x : Stood). head_of x.chunk) (first_of (only is_hdrl (stood to (cond t (hdrl_named e (ends_too && is_nil cs) c ∷ cs) (c ∷ children_named e ends_too cs)))))
          ≡ map (λ (x : Stood). head_with e (head_of x.chunk)) (first_of (cond t (record { at = at; chunk = bare c } ∷ only is_hdrl (stood (at + length (spell c)) cs)) (only is_hdrl (stood (at + length (spell c)) cs))))
      go true i again =
          let o = h.1.0 i in
          let new = hdrl_named e (ends_too && is_nil cs) c in
          let typed : is_hdrl new ≡ true = list_type (codes "hdrl") c (kids_of e (ends_too && is_nil cs) c) o.0 ∙ i in
          ap (λ (b : Bool). map (λ (x : Stood). head_of x.chunk) (first_of (cond b (record { at = to; chunk = bare new } ∷ only is_hdrl (stood (to + length (spell new)) cs)) (only is_hdrl (stood (to + length (spell new)) cs))))) typed
          ∙ ap (λ (x : Head). x ∷ []) (head_placed e (ends_too && is_nil cs) c o.0 o.1 (kids_small (ends_too && is_nil cs) c o.0 (lt.0 i)))
      go false i again =
          let more = children_named e ends_too cs in
          ap (λ (b : Bool). map (λ (x : Stood). head_of x.chunk) (first_of (cond b (record { at = to; chunk = bare c } ∷ only is_hdrl (stood (to + length (spell c)) more)) (only is_hdrl (stood (to + length (spell c)) more))))) i
          ∙ again i

-- ---- the others

other_than : (p : Chunk → Bool) (cs : List Chunk) → filter (λ c. not (p c)) cs ≡ flat_map (λ c. cond (not (p c)) (c ∷ []) []) cs
other_than p [] = refl
other_than p (c ∷ cs) = go (not (p c)) (other_than p cs)
  where
    go : (t : Bool) → filter (λ c. not (p c)) cs ≡ flat_map (λ c. cond (not (p c)) (c ∷ []) []) cs → cond t (c ∷ filter (λ c. not (p c)) cs) (filter (λ c. not (p c)) cs) ≡ cond t (c ∷ []) [] ++ flat_map (λ c. cond (not (p c)) (c ∷ []) []) cs
    go true g = ap (λ (x : List Chunk). c ∷ x) g
    go false g = g

-- Other names are set in the lists of streams.
pub names_are_set : (b : List ℕ) (e : Names) → IsBytes b → Supported b → length (spell_all (named (avi_of b) e).children) < 2 ^ 32 → NamesSet (avi_of b) e
names_are_set b e bytes s lt =
    let a = avi_of b in
    let g : Ended (avi_of b) = ended b bytes s in
    let h = supported_children b bytes s in
    let t = ends_file a in
    let cs = name_cuts a e in
    let end = 12 + length (spell_all a.children) in
    let hides = λ (p : Chunk → Bool). (c : Chunk) → is_hdrl c ≡ true → p (bare c) ≡ false in
    let no_old : hides (has_id (codes "idx1")) = λ c i. rw (type_is (codes "hdrl") c i).id_is refl in
    let no_movi : hides is_movi = λ c i. let t = type_is (codes "hdrl") c i in rw (t.id_is, t.type_is) (Rattle.avi_model.proofs.Types.and_none (Rattle.carrier_model.specs.Info.own_size c.form)) in
    let streams = moves_with e cs 12 end (Rattle.avi_model.specs.Avi.stream_indexes a) (Rattle.avi_model.specs.Avi.stream_indexes (named a e)) (streams_follow e t 12 12 a.children h (all_small e t a.children lt)) in
    let olds = moves_with e cs 12 end (only (has_id (codes "idx1")) (top a)) (only (has_id (codes "idx1")) (top (named a e))) (children_follow e (has_id (codes "idx1")) no_old t 12 12 a.children h) in
    let movis = moves_with e cs 12 end (only is_movi (top a)) (only is_movi (top (named a e))) (children_follow e is_movi no_movi t 12 12 a.children h) in
    record {
      again = plain_again (children_named e t a.children) a.left (children_plain e t a.children h) (children_pads e t a.children a.left h g.readable.pads) g.readable.few_left lt;
      names = λ n less. children_names e t 12 12 a.children h (all_small e t a.children lt) n less;
      heads = children_heads e t 12 12 a.children h (all_small e t a.children lt);
      others = other_than is_hdrl (children_named e t a.children) ∙ children_seen e (λ c. cond (not (is_hdrl c)) (c ∷ []) []) (λ u c o i. hidden u c o i) t a.children h ∙ sym (other_than is_hdrl a.children);
      spliced = children_spliced e t 12 a.children h;
      ascend = (children_block e t 12 12 a.children h).ascend;
      indexes = streams.0;
      olds = ap first_of olds.0 ∙ first_map (moved_to (shift cs)) (only (has_id (codes "idx1")) (top a));
      movis = movis.0;
    }
  where
    hidden : (u : Bool) (c : Chunk) → Opens c → is_hdrl c ≡ true → cond (not (is_hdrl (hdrl_named e u c))) (hdrl_named e u c ∷ []) [] ≡ cond (not (is_hdrl c)) (c ∷ []) []
    hidden u c o i =
        ap (λ (b : Bool). cond (not b) (hdrl_named e u c ∷ []) []) (list_type (codes "hdrl") c (kids_of e u c) o.0 ∙ i) ∙ sym (ap (λ (b : Bool). cond (not b) (c ∷ []) []) i)
