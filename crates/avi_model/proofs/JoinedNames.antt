-- The names of the streams after an edit of fields and names.
use Rattle.std.proofs.Common.{◌≡◌, ℕ, zero, suc, ◌+◌, ◌<◌, Bool, true, false, cond, eqb, List, [], ◌∷◌, length, map, refl, sym, ap, ◌∙◌, arith, inl, inr}
use Rattle.std.specs.Prelude.{◌||◌, filter}
use Rattle.std.specs.List.{AllByRecursion}
use Rattle.me_bytes.specs.Bytes.{IsBytes}
use Rattle.container_model.specs.Chunk.{Chunk, Run, spell}
use Rattle.container_model.specs.Splice.{shift}
use Rattle.container_model.specs.Stood.{Stood}
use Rattle.container_model.specs.Written.{Write}
use Rattle.container_model.proofs.Copied.{moved_to}
use Rattle.container_model.proofs.Stood.{renew_at}
use Rattle.container_model.proofs.Written.{renew, renewed}
use Rattle.carrier_model.specs.Info.{list_run}
use Rattle.carrier_model.specs.Names.{is_name}
use Rattle.opendml_index.specs.Index.{move}
use Rattle.avi_model.specs.After.{Changes, goes, joined, list_cuts}
use Rattle.avi_model.specs.Avi.{Avi, avi_of, strls}
use Rattle.avi_model.specs.Heads.{names_in, nth_names}
use Rattle.avi_model.specs.Index.{writes}
use Rattle.avi_model.specs.Named.{Names, ends_file, is_named, names_after, named}
use Rattle.avi_model.specs.Support.{Supported}
use Rattle.avi_model.proofs.Among.{Among}
use Rattle.avi_model.proofs.Children.{HdrlSmall}
use Rattle.avi_model.proofs.Clear.{strl_open}
use Rattle.avi_model.proofs.JoinedCuts.{chunks_again}
use Rattle.avi_model.proofs.JoinedLaid.{strls_listed, strls_still}
use Rattle.avi_model.proofs.Levels.{Ended, strl_whole}
use Rattle.avi_model.proofs.Lies.{Lies}
use Rattle.avi_model.proofs.NamesClear.{names_alone, run_stays}
use Rattle.avi_model.proofs.NamesRenewed.{NamesAlone}
use Rattle.avi_model.proofs.NamesSet.{children_names}
use Rattle.avi_model.proofs.Read.{renewed_avi}
use Rattle.avi_model.proofs.Sound.{ended, writes_lie}

-- the names after the items are those that were set, or the old ones
pub named_after : (e : Names) (n : ℕ) (vs : List (List ℕ)) → names_after e n vs ≡ cond (is_named e n) (names_after e n []) vs
named_after [] n vs = refl
named_after (i ∷ e) n vs = go (eqb i.stream n) (named_after e n vs)
  where
    go : (t : Bool) → names_after e n vs ≡ cond (is_named e n) (names_after e n []) vs
        → names_after e n (cond t (Rattle.container_model.specs.Items.listed i.value) vs) ≡ cond (t || is_named e n) (names_after e n (cond t (Rattle.container_model.specs.Items.listed i.value) [])) vs
    go true again = refl
    go false again = again

nth_moved : (f : ℕ → ℕ) (k : ℕ) (xs : List Stood) → nth_names k (map (moved_to f) xs) ≡ nth_names k xs
nth_moved f k [] = refl
nth_moved f zero (x ∷ xs) = refl
nth_moved f (suc k) (x ∷ xs) = nth_moved f k xs

nth_renewed : (ws : List Write) (k : ℕ) (xs : List Stood) → ((x : Stood) → Among x xs → names_in (renew_at ws x) ≡ names_in x) → nth_names k (map (renew_at ws) xs) ≡ nth_names k xs
nth_renewed ws k [] h = refl
nth_renewed ws zero (x ∷ xs) h = h x (inl refl)
nth_renewed ws (suc k) (x ∷ xs) h = nth_renewed ws k xs (λ y i. h y (inr i))

bodies_still : (ws : List Write) (at : ℕ) (cs : List Chunk) → NamesAlone ws at cs → map (λ (c : Chunk). c.body) (filter is_name (renewed ws at cs)) ≡ map (λ (c : Chunk). c.body) (filter is_name cs)
bodies_still ws at [] h = refl
bodies_still ws at (c ∷ cs) h = go (is_name c) refl (bodies_still ws (at + length (spell c)) cs h.1)
  where
    go : (t : Bool) → is_name c ≡ t → map (λ (c : Chunk). c.body) (filter is_name (renewed ws (at + length (spell c)) cs)) ≡ map (λ (c : Chunk). c.body) (filter is_name cs)
        → map (λ (c : Chunk). c.body) (cond t (renew ws at c ∷ filter is_name (renewed ws (at + length (spell c)) cs)) (filter is_name (renewed ws (at + length (spell c)) cs)))
        ≡ map (λ (c : Chunk). c.body) (cond t (c ∷ filter is_name cs) (filter is_name cs))
    go true i again = ap (λ (d : Chunk). d.body ∷ map (λ (c : Chunk). c.body) (filter is_name (renewed ws (at + length (spell c)) cs))) (h.0.1 i) ∙ ap (λ (x : List (List ℕ)). c.body ∷ x) again
    go false i again = again

module _ (o : List ℕ) (bytes : IsBytes o) (s : Supported o) (e : Changes) where
  abbrev a : Avi
  a = avi_of o

  abbrev ws : List Write
  ws = writes (move (goes (avi_of o) e)) o

  abbrev b : Avi
  b = renewed_avi (writes (move (goes (avi_of o) e)) o) (avi_of o)

  g : Ended (avi_of o)
  g = ended o bytes s

  lie : AllByRecursion (λ w. Lies (avi_of o) w.at (length w.bytes)) (writes (move (goes (avi_of o) e)) o)
  lie = writes_lie o bytes s (move (goes (avi_of o) e))

  names_still : (x : Stood) → Among x (strls a) → names_in (renew_at ws x) ≡ names_in x
  names_still x i =
      ap (λ (r : Run). map (λ (c : Chunk). c.body) (filter is_name r.chunks)) (run_stays ws x (strl_whole a g x i).2.head (strl_open a g ws lie x i))
      ∙ bodies_still ws (x.at + 12) (list_run x.chunk).chunks (names_alone a g ws lie x i (x.at + 12) (list_run x.chunk).chunks (λ y j. j))

  -- Each stream that is there has the name that was set, or its old ones.
  pub joined_names : HdrlSmall e.names (ends_file (renewed_avi (writes (move (goes (avi_of o) e)) o) (avi_of o))) (renewed_avi (writes (move (goes (avi_of o) e)) o) (avi_of o)).children
      → (k : ℕ) → k < length (strls (avi_of o)) → nth_names k (strls (joined (renewed_avi (writes (move (goes (avi_of o) e)) o) (avi_of o)) e)) ≡ names_after e.names k (nth_names k (strls (avi_of o)))
  joined_names small k less =
      let count : length (strls b) ≡ length (strls a) = ap length (strls_still o bytes s e) ∙ Rattle.std.proofs.lemmas.List.length-map (strls a) (renew_at ws) in
      let old : nth_names k (strls b) ≡ nth_names k (strls a) = ap (nth_names k) (strls_still o bytes s e) ∙ nth_renewed ws k (strls a) names_still in
      ap (nth_names k) (strls_listed o bytes s e small).0 ∙ nth_moved (shift (list_cuts a e)) k (strls (named b e.names))
      ∙ children_names e.names (ends_file b) 12 12 b.children (chunks_again o bytes s (move (goes (avi_of o) e)) e) small k (omega (arith, less, count))
      ∙ ap (λ (vs : List (List ℕ)). cond (is_named e.names k) (names_after e.names k []) vs) old ∙ sym (named_after e.names k (nth_names k (strls a)))
