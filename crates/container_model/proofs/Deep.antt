-- A change of leaves that keeps their lengths keeps the tree.
use Rattle.std.proofs.Common.{◌≡◌, ℕ, zero, suc, ◌+◌, ◌≤◌, List, [], ◌∷◌, ◌++◌, length, map, take, drop, Option, Some, None, refl, sym, ap, subst, ◌∙◌, append_assoc, arith, inl, inr}
use Rattle.std.specs.List.{flat_map, AllByRecursion}
use Rattle.std.proofs.lemmas.List.{length-append, length-take, drop_at, take_at, nil_from_length, take-append-drop}
use Rattle.container_model.specs.Chunk.{Form, to_end, header_bytes, Chunk, spell, spell_all, Header, full_header, Run, ends, chunks, GivesBack, PadStands, Stands, Reads, Heads}
use Rattle.container_model.specs.Deep.{Format, kids, with_kids, mend_at, mend, Whole_at, Whole, Leaf, stands, leaves_at, leaves, Token, opened, closed, leaf, tokens_at, tokens}
use Rattle.container_model.proofs.Codec.{IsBytes, IsBytes-drop, IsBytes-behind, chunks_joined, chunks_read, chunks_spelled}

pub IsBytes-front : (a b : List ℕ) → IsBytes (a ++ b) → IsBytes a
IsBytes-front [] b h i = omega arith
IsBytes-front (x ∷ a) b h zero = h 0
IsBytes-front (x ∷ a) b h (suc i) = IsBytes-front a b (λ j. h (suc j)) i

-- What is read of a header doesn't turn on the bytes behind it, but for their number where the size is to the end.
abbrev pub Moves : {S : Type 0} → (S → List ℕ → Header S) → Type 0
Moves {S} front = (s next : S) (b after other id : List ℕ) (form : Form) (n : ℕ) → IsBytes b → front s b ≡ full_header form id n after next → (form ≡ to_end → length other ≡ length after) → front s (header_bytes form id n ++ other) ≡ full_header form id n other next

pub record Alike (c d : Chunk) : Type 0 where
  pub form_is : d.form ≡ c.form
  pub id_is : d.id ≡ c.id
  pub len_is : length d.body ≡ length c.body
  pub pad_is : d.pad ≡ c.pad

pub alike_len : (c d : Chunk) → Alike c d → length (spell d) ≡ length (spell c)
alike_len c d h =
    let one : length (spell d) ≡ length (header_bytes d.form d.id (length d.body)) + (length d.body + length d.pad) = omega (arith, length-append (header_bytes d.form d.id (length d.body)) (d.body ++ d.pad), length-append d.body d.pad) in
    let two : length (spell c) ≡ length (header_bytes c.form c.id (length c.body)) + (length c.body + length c.pad) = omega (arith, length-append (header_bytes c.form c.id (length c.body)) (c.body ++ c.pad), length-append c.body c.pad) in
    one ∙ rw (h.form_is, h.id_is, h.len_is, h.pad_is) (sym two)

abbrev pub AllAlike : (Chunk → Chunk) → List Chunk → Type 0
AllAlike g cs = AllByRecursion (λ c. Alike c (g c)) cs

pub all_len : (g : Chunk → Chunk) (cs : List Chunk) → AllAlike g cs → length (spell_all (map g cs)) ≡ length (spell_all cs)
all_len g [] h = refl
all_len g (c ∷ cs) h = omega (arith, length-append (spell (g c)) (spell_all (map g cs)), length-append (spell c) (spell_all cs), alike_len c (g c) h.0, all_len g cs h.1)

pad_moves : (form : Form) (n : ℕ) (pad more other : List ℕ) → length other ≡ length more → PadStands form n pad more → PadStands form n pad other
pad_moves form n pad more other e (inl h) = inl h
pad_moves form n pad more other e (inr h) = inr (h.0, nil_from_length other (omega (arith, ap length h.1)))

module _ {S : Type 0} (front : S → List ℕ → Header S) (moves : Moves front) where
  pub stands_move : (s next : S) (c d : Chunk) (more other : List ℕ) → IsBytes (spell c ++ more) → Alike c d → length other ≡ length more → Stands front s next c more → Stands front s next d other
  stands_move s next c d more other bytes h e st =
      let after = d.body ++ (d.pad ++ other) in
      let len : length after ≡ length (c.body ++ (c.pad ++ more)) = omega (arith, length-append d.body (d.pad ++ other), length-append d.pad other, length-append c.body (c.pad ++ more), length-append c.pad more, h.len_is, ap length h.pad_is) in
      let read = moves s next (spell c ++ more) (c.body ++ (c.pad ++ more)) after c.id c.form (length c.body) bytes st.header_read (λ e. len) in
      let split : spell d ++ other ≡ header_bytes d.form d.id (length d.body) ++ after = simp append_assoc in
      let same : header_bytes d.form d.id (length d.body) ++ after ≡ header_bytes c.form c.id (length c.body) ++ after = rw (h.form_is, h.id_is, h.len_is) refl in
      let tail : full_header c.form c.id (length c.body) after next ≡ full_header d.form d.id (length d.body) after next = rw (h.form_is, h.id_is, h.len_is) refl in
      let pad : PadStands c.form (length c.body) c.pad other = pad_moves c.form (length c.body) c.pad more other e st.padded in
      record { header_read = ap (front s) (split ∙ same) ∙ read ∙ tail; padded = rw (h.form_is, h.len_is, h.pad_is) pad }

  reads_map : (g : Chunk → Chunk) (s : S) (cs : List Chunk) (left : List ℕ) → IsBytes (spell_all cs ++ left) → AllAlike g cs → Reads front s cs left → Reads front s (map g cs) left
  reads_map g s [] left bytes h r = r
  reads_map g s (c ∷ cs) left bytes h r =
      let split : (spell c ++ spell_all cs) ++ left ≡ spell c ++ (spell_all cs ++ left) = append_assoc (spell c) (spell_all cs) left in
      let b : IsBytes (spell c ++ (spell_all cs ++ left)) = rw split at bytes in
      let len : length (spell_all (map g cs) ++ left) ≡ length (spell_all cs ++ left) = omega (arith, length-append (spell_all (map g cs)) left, length-append (spell_all cs) left, all_len g cs h.1) in
      (r.0, stands_move s r.0 c (g c) (spell_all cs ++ left) (spell_all (map g cs) ++ left) b h.0 len r.1, reads_map g r.0 cs left (IsBytes-behind (spell c) (spell_all cs ++ left) b) h.1 r.2)

-- no chunk goes to the end of the file
abbrev pub Closed : List Chunk → Type 0
Closed cs = AllByRecursion (λ c. c.form ≡ to_end → ⊥) cs

-- What was read has headers that are read whatever follows: so a list whose units are replaced is read again.
pub heads_from : {S : Type 0} (front : S → List ℕ → Header S) → Moves front → (s : S) (cs : List Chunk) (left : List ℕ) → IsBytes (spell_all cs ++ left) → Closed cs → Reads front s cs left → Heads front s cs
heads_from front moves s [] left bytes h r = tt
heads_from front moves s (c ∷ cs) left bytes h r =
    let more = spell_all cs ++ left in
    let b : IsBytes (spell c ++ more) = rw (append_assoc (spell c) (spell_all cs) left) at bytes in
    (r.0, λ after. moves s r.0 (spell c ++ more) (c.body ++ (c.pad ++ more)) after c.id c.form (length c.body) b r.1.header_read (λ e. absurd (h.0 e)), heads_from front moves r.0 cs left (IsBytes-behind (spell c) more b) h.1 r.2)

pub bytes_of : (cs : List Chunk) (left : List ℕ) → IsBytes (spell_all cs ++ left) → AllByRecursion (λ c. IsBytes c.body) cs
bytes_of [] left h = tt
bytes_of (c ∷ cs) left h =
    let split : (spell c ++ spell_all cs) ++ left ≡ header_bytes c.form c.id (length c.body) ++ (c.body ++ (c.pad ++ (spell_all cs ++ left))) = simp append_assoc in
    let b : IsBytes (c.body ++ (c.pad ++ (spell_all cs ++ left))) = IsBytes-behind (header_bytes c.form c.id (length c.body)) _ (rw split at h) in
    (IsBytes-front c.body (c.pad ++ (spell_all cs ++ left)) b, bytes_of cs left (IsBytes-behind c.pad (spell_all cs ++ left) (IsBytes-behind c.body (c.pad ++ (spell_all cs ++ left)) b)))

module _ {P S : Type 0} (f : Format P S) (good : GivesBack f.front) (moves : Moves f.front) (m : P → Chunk → List ℕ) (keeps : (p : P) (c : Chunk) → length (m p c) ≡ length c.body) where
  pub kids_joined : (q : P) (c : Chunk) → IsBytes c.body → spell_all (kids f q c).chunks ++ (kids f q c).left ≡ drop (f.prefix q) c.body
  kids_joined q c bytes = chunks_joined f.front good (f.start q) (drop (f.prefix q) c.body) (IsBytes-drop (f.prefix q) c.body bytes)

  pub kids_bytes : (q : P) (c : Chunk) → IsBytes c.body → IsBytes (spell_all (kids f q c).chunks ++ (kids f q c).left)
  kids_bytes q c bytes = rw (kids_joined q c bytes) (IsBytes-drop (f.prefix q) c.body bytes)

  pub each_alike : (g : Chunk → Chunk) (W : Chunk → Type 0) → ((k : Chunk) → W k → IsBytes k.body → Alike k (g k)) → (cs : List Chunk) → AllByRecursion W cs → AllByRecursion (λ c. IsBytes c.body) cs → AllAlike g cs
  each_alike g W h [] w b = tt
  each_alike g W h (c ∷ cs) w b = (h c w.0 b.0, each_alike g W h cs w.1 b.1)

  kids_len : (g : Chunk → Chunk) (q : P) (c : Chunk) → IsBytes c.body → f.prefix q ≤ length c.body → AllAlike g (kids f q c).chunks → length (with_kids f q c (map g (kids f q c).chunks)).body ≡ length c.body
  kids_len g q c bytes low h =
      let k = kids f q c in
      let cs = map g k.chunks in
      omega (arith, length-append (take (f.prefix q) c.body) (spell_all cs ++ k.left), length-append (spell_all cs) k.left, length-append (spell_all k.chunks) k.left, all_len g k.chunks h, ap length (kids_joined q c bytes), length-take (f.prefix q) c.body, Rattle.std.proofs.lemmas.List.length-drop (f.prefix q) c.body)

  -- the children of a container whose leaves are changed
  pub kids_again : (g : Chunk → Chunk) (q : P) (c : Chunk) → IsBytes c.body → (kids f q c).stop ≡ ends → f.prefix q ≤ length c.body → AllAlike g (kids f q c).chunks
      → (kids f q (with_kids f q c (map g (kids f q c).chunks)) ≡ record { chunks = map g (kids f q c).chunks; stop = ends; left = (kids f q c).left })
      × (take (f.prefix q) (with_kids f q c (map g (kids f q c).chunks)).body ≡ take (f.prefix q) c.body)
  kids_again g q c bytes whole low h =
      let k = kids f q c in
      let front_len : length (take (f.prefix q) c.body) ≡ f.prefix q = omega (arith, length-take (f.prefix q) c.body) in
      let read = chunks_read f.front good (f.start q) (drop (f.prefix q) c.body) (IsBytes-drop (f.prefix q) c.body bytes) whole in
      let again = reads_map f.front moves g (f.start q) k.chunks k.left (kids_bytes q c bytes) h read in (
        ap (chunks f.front (f.start q)) (drop_at (take (f.prefix q) c.body) (spell_all (map g k.chunks) ++ k.left) (f.prefix q) front_len) ∙ chunks_spelled f.front (f.start q) (map g k.chunks) k.left again,
        take_at (take (f.prefix q) c.body) (spell_all (map g k.chunks) ++ k.left) (f.prefix q) front_len,
      )

  at_alike : (W : P → Chunk → Type 0) (g : P → Chunk → Chunk) → ((q : P) (k : Chunk) → W q k → IsBytes k.body → Alike k (g q k)) → (p : P) (c : Chunk) (o : Option P) → Whole_at f W c o → IsBytes c.body → Alike c (mend_at f m g p c o)
  at_alike W g h p c None w bytes = record { form_is = refl; id_is = refl; len_is = keeps p c; pad_is = refl }
  at_alike W g h p c (Some q) w bytes =
      let all = each_alike (g q) (W q) (h q) (kids f q c).chunks w.2 (bytes_of (kids f q c).chunks (kids f q c).left (kids_bytes q c bytes)) in
      record { form_is = refl; id_is = refl; len_is = kids_len (g q) q c bytes w.1 all; pad_is = refl }

  pub mend_alike : (d : ℕ) (p : P) (c : Chunk) → Whole f d p c → IsBytes c.body → Alike c (mend f m d p c)
  unfolding mend Whole
  mend_alike zero p c w bytes = record { form_is = refl; id_is = refl; len_is = keeps p c; pad_is = refl }
  mend_alike (suc d) p c w bytes = at_alike (Whole f d) (mend f m d) (λ q k x b. mend_alike d q k x b) p c (f.opens p c.id (take 4 c.body)) w bytes

  -- a change that changes nothing
  each_same : (g : Chunk → Chunk) (W : Chunk → Type 0) → ((k : Chunk) → W k → IsBytes k.body → g k ≡ k) → (cs : List Chunk) → AllByRecursion W cs → AllByRecursion (λ c. IsBytes c.body) cs → map g cs ≡ cs
  each_same g W h [] w b = refl
  each_same g W h (c ∷ cs) w b = rw (h c w.0 b.0, each_same g W h cs w.1 b.1) refl

  at_same : (d : ℕ) → ((p : P) (c : Chunk) → IsBytes c.body → m p c ≡ c.body) → ((q : P) (k : Chunk) → Whole f d q k → IsBytes k.body → mend f m d q k ≡ k)
      → (p : P) (c : Chunk) (o : Option P) → Whole_at f (Whole f d) c o → IsBytes c.body → mend_at f m (mend f m d) p c o ≡ c
  at_same d h again p c None w bytes = ap (λ (x : List ℕ). record c { body = x }) (h p c bytes)
  at_same d h again p c (Some q) w bytes =
      let k = kids f q c in
      let same : map (mend f m d q) k.chunks ≡ k.chunks = each_same (mend f m d q) (Whole f d q) (again q) k.chunks w.2 (bytes_of k.chunks k.left (kids_bytes q c bytes)) in
      let body : take (f.prefix q) c.body ++ (spell_all k.chunks ++ k.left) ≡ c.body = ap (λ (x : List ℕ). take (f.prefix q) c.body ++ x) (kids_joined q c bytes) ∙ take-append-drop (f.prefix q) c.body in
      ap (λ (cs : List Chunk). with_kids f q c cs) same ∙ ap (λ (x : List ℕ). record c { body = x }) body

  pub mend_same : ((p : P) (c : Chunk) → IsBytes c.body → m p c ≡ c.body) → (d : ℕ) (p : P) (c : Chunk) → Whole f d p c → IsBytes c.body → mend f m d p c ≡ c
  unfolding mend Whole
  mend_same h zero p c w bytes = ap (λ (x : List ℕ). record c { body = x }) (h p c bytes)
  mend_same h (suc d) p c w bytes = at_same d h (λ q k x b. mend_same h d q k x b) p c (f.opens p c.id (take 4 c.body)) w bytes

  -- what is read to its end still is
  each_whole : (g : Chunk → Chunk) (W : Chunk → Type 0) → ((k : Chunk) → W k → IsBytes k.body → W (g k)) → (cs : List Chunk) → AllByRecursion W cs → AllByRecursion (λ c. IsBytes c.body) cs → AllByRecursion W (map g cs)
  each_whole g W h [] w b = tt
  each_whole g W h (c ∷ cs) w b = (h c w.0 b.0, each_whole g W h cs w.1 b.1)

  at_whole : (d : ℕ) → ((q : P) (k : Chunk) → Whole f d q k → IsBytes k.body → Whole f d q (mend f m d q k))
      → (p : P) (c : Chunk) (o : Option P) → Whole_at f (Whole f d) c o → IsBytes c.body → Whole_at f (Whole f d) (mend_at f m (mend f m d) p c o) o
  at_whole d h p c None w bytes = tt
  at_whole d h p c (Some q) w bytes =
      let k = kids f q c in
      let g = mend f m d q in
      let bs = bytes_of k.chunks k.left (kids_bytes q c bytes) in
      let all = each_alike g (Whole f d q) (λ x y z. mend_alike d q x y z) k.chunks w.2 bs in
      let r = kids_again g q c bytes w.0 w.1 all in
      let len = kids_len g q c bytes w.1 all in
      (ap (λ (x : Run). x.stop) r.0, rw len w.1, subst (λ (x : Run). AllByRecursion (Whole f d q) x.chunks) (sym r.0) (each_whole g (Whole f d q) (h q) k.chunks w.2 bs))

  pub mend_whole : ((d : ℕ) (p : P) (c : Chunk) → Whole f d p c → IsBytes c.body → f.opens p (mend f m d p c).id (take 4 (mend f m d p c).body) ≡ f.opens p c.id (take 4 c.body))
      → (d : ℕ) (p : P) (c : Chunk) → Whole f d p c → IsBytes c.body → Whole f d p (mend f m d p c)
  unfolding mend Whole
  mend_whole same zero p c w bytes = tt
  mend_whole same (suc d) p c w bytes =
      subst (Whole_at f (Whole f d) (mend_at f m (mend f m d) p c (f.opens p c.id (take 4 c.body)))) (sym (same (suc d) p c w bytes))
      (at_whole d (λ q k x b. mend_whole same d q k x b) p c (f.opens p c.id (take 4 c.body)) w bytes)

  -- the leaves of a tree whose leaves are changed
  abbrev pub mended : Leaf P → Leaf P
  mended l = stands l.place (record l.chunk { body = m l.place l.chunk })

  map-leaves : (a b : List (Leaf P)) → map mended (a ++ b) ≡ map mended a ++ map mended b
  map-leaves [] b = refl
  map-leaves (l ∷ a) b = ap (λ (x : List (Leaf P)). mended l ∷ x) (map-leaves a b)

  each_leaf : (g : Chunk → Chunk) (t : Chunk → List (Leaf P)) (W : Chunk → Type 0) → ((k : Chunk) → W k → IsBytes k.body → t (g k) ≡ map mended (t k)) → (cs : List Chunk) → AllByRecursion W cs → AllByRecursion (λ c. IsBytes c.body) cs
      → flat_map t (map g cs) ≡ map mended (flat_map t cs)
  each_leaf g t W h [] w b = refl
  each_leaf g t W h (c ∷ cs) w b = rw (h c w.0 b.0, each_leaf g t W h cs w.1 b.1) (sym (map-leaves (t c) (flat_map t cs)))

  at_leaves : (d : ℕ) → ((q : P) (k : Chunk) → Whole f d q k → IsBytes k.body → leaves f d q (mend f m d q k) ≡ map mended (leaves f d q k))
      → (p : P) (c : Chunk) (o : Option P) → Whole_at f (Whole f d) c o → IsBytes c.body → leaves_at f (leaves f d) p (mend_at f m (mend f m d) p c o) o ≡ map mended (leaves_at f (leaves f d) p c o)
  at_leaves d h p c None w bytes = refl
  at_leaves d h p c (Some q) w bytes =
      let k = kids f q c in
      let bs = bytes_of k.chunks k.left (kids_bytes q c bytes) in
      let all = each_alike (mend f m d q) (Whole f d q) (λ x y z. mend_alike d q x y z) k.chunks w.2 bs in
      let r = kids_again (mend f m d q) q c bytes w.0 w.1 all in
      ap (λ (x : Run). flat_map (leaves f d q) x.chunks) r.0 ∙ each_leaf (mend f m d q) (leaves f d q) (Whole f d q) (h q) k.chunks w.2 bs

  pub mend_leaves : ((d : ℕ) (p : P) (c : Chunk) → Whole f d p c → IsBytes c.body → f.opens p (mend f m d p c).id (take 4 (mend f m d p c).body) ≡ f.opens p c.id (take 4 c.body))
      → (d : ℕ) (p : P) (c : Chunk) → Whole f d p c → IsBytes c.body → leaves f d p (mend f m d p c) ≡ map mended (leaves f d p c)
  unfolding mend Whole leaves
  mend_leaves same zero p c w bytes = refl
  mend_leaves same (suc d) p c w bytes =
      ap (leaves_at f (leaves f d) p (mend_at f m (mend f m d) p c (f.opens p c.id (take 4 c.body)))) (same (suc d) p c w bytes)
      ∙ at_leaves d (λ q k x b. mend_leaves same d q k x b) p c (f.opens p c.id (take 4 c.body)) w bytes

  module _ (look : P → Chunk → List ℕ) (unseen : (p : P) (c : Chunk) → look p (record c { body = m p c }) ≡ look p c) where
    each_token : (g : Chunk → Chunk) (t : Chunk → List Token) (W : Chunk → Type 0) → ((k : Chunk) → W k → IsBytes k.body → t (g k) ≡ t k) → (cs : List Chunk) → AllByRecursion W cs → AllByRecursion (λ c. IsBytes c.body) cs → flat_map t (map g cs) ≡ flat_map t cs
    each_token g t W h [] w b = refl
    each_token g t W h (c ∷ cs) w b = rw (h c w.0 b.0, each_token g t W h cs w.1 b.1) refl

    at_tokens : (d : ℕ) → ((q : P) (k : Chunk) → Whole f d q k → IsBytes k.body → tokens f look d q (mend f m d q k) ≡ tokens f look d q k)
        → (p : P) (c : Chunk) (o : Option P) → Whole_at f (Whole f d) c o → IsBytes c.body → tokens_at f look (tokens f look d) p (mend_at f m (mend f m d) p c o) o ≡ tokens_at f look (tokens f look d) p c o
    at_tokens d h p c None w bytes = ap (λ (x : List ℕ). leaf c.form c.id x ∷ []) (unseen p c)
    at_tokens d h p c (Some q) w bytes =
        let k = kids f q c in
        let bs = bytes_of k.chunks k.left (kids_bytes q c bytes) in
        let all = each_alike (mend f m d q) (Whole f d q) (λ x y z. mend_alike d q x y z) k.chunks w.2 bs in
        let r = kids_again (mend f m d q) q c bytes w.0 w.1 all in
        let same = each_token (mend f m d q) (tokens f look d q) (Whole f d q) (h q) k.chunks w.2 bs in
        ap (λ (x : Run). opened c.form c.id (take (f.prefix q) (with_kids f q c (map (mend f m d q) k.chunks)).body) ∷ (flat_map (tokens f look d q) x.chunks ++ closed x.left ∷ [])) r.0
        ∙ rw (r.1, same) refl

    -- The tokens stay, where nothing is looked at that a leaf's change writes, and a change leaves what opens a chunk.
    pub mend_tokens : ((d : ℕ) (p : P) (c : Chunk) → Whole f d p c → IsBytes c.body → f.opens p (mend f m d p c).id (take 4 (mend f m d p c).body) ≡ f.opens p c.id (take 4 c.body))
        → (d : ℕ) (p : P) (c : Chunk) → Whole f d p c → IsBytes c.body → tokens f look d p (mend f m d p c) ≡ tokens f look d p c
    unfolding mend Whole tokens
    mend_tokens same zero p c w bytes = ap (λ (x : List ℕ). leaf c.form c.id x ∷ []) (unseen p c)
    mend_tokens same (suc d) p c w bytes =
        ap (tokens_at f look (tokens f look d) p (mend_at f m (mend f m d) p c (f.opens p c.id (take 4 c.body)))) (same (suc d) p c w bytes)
        ∙ at_tokens d (λ q k x b. mend_tokens same d q k x b) p c (f.opens p c.id (take 4 c.body)) w bytes
