-- Where the tables of a movie lie in its file, what their rows hold, and what an edit makes of them.
use Rattle.std.proofs.Common.{◌≡◌, ◌∙◌, ℕ, zero, suc, ◌+◌, ◌-◌, ◌*◌, ◌≤◌, ◌<◌, Bool, true, false, cond, List, [], ◌∷◌, ◌++◌, length, map, take, drop, Option, Some, None, refl, sym, ap, subst, arith, append_assoc, append-nil}
use Rattle.std.specs.Prelude.{◌&&◌, ◌||◌, not, codes}
use Rattle.std.specs.List.{AllByRecursion, flat_map}
use Rattle.std.proofs.lemmas.Bool.{and_parts}
use Rattle.std.proofs.lemmas.List.{drop-drop, drop-take, drop_at, take-take, take_at, length-drop, length-take}
use Rattle.std.proofs.lemmas.List.Concat.{flat_map-append}
use Rattle.me_bytes.specs.Bytes.{IsBytes}
use Rattle.container_model.specs.Atoms.{is}
use Rattle.container_model.specs.Chunk.{Chunk, header_bytes, spell, spell_all}
use Rattle.container_model.specs.Deep.{Leaf, kids}
use Rattle.container_model.specs.Rows.{Width, be32, be64, numbers, spelled}
use Rattle.container_model.specs.Sizes.{atom_front, inside}
use Rattle.container_model.specs.Splice.{Ascend, Cut, end_of}
use Rattle.container_model.specs.Units.{solids}
use Rattle.container_model.specs.Walk.{Step, along, body_at, chunk_at, chunk_met, end_at, walk, walk_at}
use Rattle.container_model.proofs.Atoms.{atoms_give_back}
use Rattle.container_model.proofs.Codec.{chunks_joined}
use Rattle.container_model.proofs.Deep.{bytes_of}
use Rattle.container_model.proofs.Items.{same_true}
use Rattle.container_model.proofs.Walk.{all_join, all_parts, nested_leaves, sound_to, walk_nested}
use Rattle.mov_model.specs.Atoms.{Place, dinf, file, format, is_padding, mdia, minf, moov, opens, stbl, trak, user_data}
use Rattle.mov_model.specs.Cuts.{RowTable, kid_cuts, step_cuts, step_tables, table_cut, table_of}
use Rattle.mov_model.specs.Parts.{track_of}
use Rattle.mov_model.specs.Reading.{inside_steps, kid_steps, row}
use Rattle.mov_model.specs.Tables.{in_stbl, tables}
use Rattle.mov_model.proofs.Kids.{KidOk}
use Rattle.mov_model.proofs.Steps.{AtomFine, StepFine, low_prefix}
use Rattle.mov_model.proofs.Tree.{kid_makes}
use Rattle.sample_tables.proofs.Moved.{long_rows}
use Rattle.sample_tables.specs.Tables.{count, places, places_in, rows}
use Rattle.qt_text.specs.User.{udta}
use Rattle.mov_plan.proofs.Mixed.{Begins, kid_rows, map-both}
use Rattle.mov_plan.proofs.Rowed.{row_cut}

-- ---- numbers in the bytes that they take up

pub numbers_take : (w : Width) (k n : ℕ) (b : List ℕ) → w.bytes * k ≤ n → numbers w k (take n b) ≡ numbers w k b
numbers_take w zero n b le = refl
numbers_take w (suc k) n b le =
    let step : w.bytes * suc k ≡ w.bytes + w.bytes * k = omega arith in
    let whole : w.bytes + (n - w.bytes) ≡ n = omega (arith, le, step) in
    let front : take w.bytes (take n b) ≡ take w.bytes b = take-take w.bytes n b (omega (arith, le, step)) in
    let rest : drop w.bytes (take n b) ≡ take (n - w.bytes) (drop w.bytes b) = ap (λ (j : ℕ). drop w.bytes (take j b)) (sym whole) ∙ drop-take w.bytes (n - w.bytes) b in
    ap (λ (x : List ℕ). w.get x ∷ numbers w k (drop w.bytes (take n b))) front
    ∙ ap (λ (x : List ℕ). w.get (take w.bytes b) ∷ numbers w k x) rest
    ∙ ap (λ (x : List ℕ). w.get (take w.bytes b) ∷ x) (numbers_take w k (n - w.bytes) (drop w.bytes b) (omega (arith, le, step)))

-- ---- bytes that lie at a place

abbrev pub Lies : List ℕ → ℕ → List ℕ → Type 0
Lies b at x = (rest : List ℕ) × (drop at b ≡ x ++ rest)

pub lie_first : (b : List ℕ) (at : ℕ) (x y : List ℕ) → Lies b at (x ++ y) → Lies b at x
lie_first b at x y l = (y ++ l.0, l.1 ∙ append_assoc x y l.0)

pub lie_then : (b : List ℕ) (at : ℕ) (x y : List ℕ) → Lies b at (x ++ y) → Lies b (at + length x) y
lie_then b at x y l =
    (l.0, ap (λ (n : ℕ). drop n b) (omega arith) ∙ sym (drop-drop (length x) at b) ∙ ap (drop (length x)) (l.1 ∙ append_assoc x y l.0) ∙ drop_at x (y ++ l.0) (length x) refl)

-- an atom that is met with its body in its place
abbrev pub Met : List ℕ → Step Place → Type 0
Met b (chunk_at p at c) = take (length c.body) (drop (body_at at c) b) ≡ c.body
Met b (end_at p at stop) = Unit {0}

met_one : (b : List ℕ) (p : Place) (at : ℕ) (c : Chunk) → Lies b at (spell c) → Met b (chunk_at p at c)
met_one b p at c l =
    let body = lie_first b (body_at at c) c.body c.pad (lie_then b at (header_bytes c.form c.id (length c.body)) (c.body ++ c.pad) l) in
    ap (take (length c.body)) body.1 ∙ take_at c.body body.0 (length c.body) refl

met_along : (b : List ℕ) (g : ℕ → Chunk → List (Step Place)) → ((at : ℕ) (c : Chunk) → IsBytes c.body → Lies b at (spell c) → AllByRecursion (Met b) (g at c))
    → (at : ℕ) (cs : List Chunk) → AllByRecursion (λ c. IsBytes c.body) cs → Lies b at (spell_all cs) → AllByRecursion (Met b) (along g at cs)
met_along b g h at [] bytes l = tt
met_along b g h at (c ∷ cs) bytes l =
    all_join (Met b) (g at c) (along g (at + length (spell c)) cs) (h at c bytes.0 (lie_first b at (spell c) (spell_all cs) l))
    (met_along b g h (at + length (spell c)) cs bytes.1 (lie_then b at (spell c) (spell_all cs) l))

-- the atoms in an atom lie in its body
inner_lies : (b : List ℕ) (at : ℕ) (c : Chunk) (cs : List Chunk) (left : List ℕ) → spell_all cs ++ left ≡ c.body → Lies b at (spell c) → Lies b (body_at at c) (spell_all cs)
inner_lies b at c cs left e l =
    let body = lie_first b (body_at at c) c.body c.pad (lie_then b at (header_bytes c.form c.id (length c.body)) (c.body ++ c.pad) l) in
    lie_first b (body_at at c) (spell_all cs) left (body.0, body.1 ∙ ap (λ (x : List ℕ). x ++ body.0) (sym e))

pub met_walk : (b : List ℕ) (d : ℕ) (p : Place) (at : ℕ) (c : Chunk) → IsBytes c.body → Lies b at (spell c) → AllByRecursion (Met b) (walk format d p at c)
unfolding walk
met_walk b zero p at c bytes l = (met_one b p at c l, tt)
met_walk b (suc d) p at c bytes l = (met_one b p at c l, go (opens p c.id (take 4 c.body)) (λ q at k h m. met_walk b d q at k h m))
  where
    go : (o : Option Place) → ((q : Place) (at : ℕ) (k : Chunk) → IsBytes k.body → Lies b at (spell k) → AllByRecursion (Met b) (walk format d q at k)) → AllByRecursion (Met b) (walk_at format (walk format d) at c o)
    go None again = tt
    go (Some q) again =
        let k = kids format q c in
        let joined : spell_all k.chunks ++ k.left ≡ c.body = chunks_joined atom_front atoms_give_back inside c.body bytes in
        let start : body_at at c + 0 ≡ body_at at c = omega arith in
        let bs = bytes_of k.chunks k.left (rw joined bytes) in
        all_join (Met b) (along (walk format d q) (body_at at c + 0) k.chunks) _ (rw start (met_along b (walk format d q) (again q) (body_at at c) k.chunks bs (inner_lies b at c k.chunks k.left joined l))) (tt, tt)

-- a table lies in a file, and each of its rows holds a place of this kind
abbrev pub RowFine : List ℕ → (ℕ → Type 0) → RowTable → Type 0
RowFine b H r = (r.at + r.width.bytes * r.rows ≤ length b) × AllByRecursion H (numbers r.width r.rows (drop r.at b))

stbl_closed : (p q : Place) (c : Chunk) → opens p c.id (take 4 c.body) ≡ Some q → in_stbl p c ≡ []
stbl_closed file q c e = refl
stbl_closed user_data q c e = refl
stbl_closed moov q c e = refl
stbl_closed trak q c e = refl
stbl_closed mdia q c e = refl
stbl_closed minf q c e = refl
stbl_closed stbl q c e = absurd cc
stbl_closed dinf q c e = refl

-- the tables of a track, as they are met
pub tables_met : (at : ℕ) (c : Chunk) → flat_map (λ (l : Leaf Place). in_stbl l.place l.chunk) (flat_map chunk_met (walk format 5 moov at c)) ≡ tables c
tables_met at c =
    ap (λ (ls : List (Leaf Place)). flat_map (λ (l : Leaf Place). in_stbl l.place l.chunk) ls) (walk_nested format 5 moov at c)
    ∙ nested_leaves format in_stbl stbl_closed 5 moov c

-- the rows of a table that is met stand in the file
pub rows_same : (b : List ℕ) (w : Width) (at : ℕ) (c : Chunk) → 8 + w.bytes * count c ≤ length c.body → take (length c.body) (drop (body_at at c) b) ≡ c.body → rows w c ≡ numbers w (count c) (drop (body_at at c + 8) b)
rows_same b w at c long met =
    let from = body_at at c in
    let n = length c.body in
    let whole : 8 + (n - 8) ≡ n = omega (arith, long) in
    let tail : drop 8 c.body ≡ take (n - 8) (drop (from + 8) b)
    = ap (drop 8) (sym met) ∙ ap (λ (j : ℕ). drop 8 (take j (drop from b))) (sym whole) ∙ drop-take 8 (n - 8) (drop from b) ∙ ap (take (n - 8)) (drop-drop 8 from b) in
    ap (numbers w (count c)) tail ∙ numbers_take w (count c) (n - 8) (drop (from + 8) b) (omega (arith, long))

-- ---- what is met

-- an atom at a place or behind it
abbrev pub StepLow : ℕ → Step Place → Type 0
StepLow low (chunk_at p at c) = low ≤ at
StepLow low (end_at p at stop) = Unit {0}

along_low : (low : ℕ) (g : ℕ → Chunk → List (Step Place)) → ((at : ℕ) (c : Chunk) → low ≤ at → AllByRecursion (StepLow low) (g at c)) → (at : ℕ) (cs : List Chunk) → low ≤ at → AllByRecursion (StepLow low) (along g at cs)
along_low low g h at [] le = tt
along_low low g h at (c ∷ cs) le = all_join (StepLow low) (g at c) (along g (at + length (spell c)) cs) (h at c le) (along_low low g h (at + length (spell c)) cs (omega (arith, le)))

walk_low : (low : ℕ) (d : ℕ) (p : Place) (at : ℕ) (c : Chunk) → low ≤ at → AllByRecursion (StepLow low) (walk format d p at c)
unfolding walk
walk_low low zero p at c le = (le, tt)
walk_low low (suc d) p at c le = (le, go (opens p c.id (take 4 c.body)) (λ q a k h. walk_low low d q a k h))
  where
    go : (o : Option Place) → ((q : Place) (a : ℕ) (k : Chunk) → low ≤ a → AllByRecursion (StepLow low) (walk format d q a k)) → AllByRecursion (StepLow low) (walk_at format (walk format d) at c o)
    go None again = tt
    go (Some q) again =
        all_join (StepLow low) (along (walk format d q) (body_at at c + 0) (kids format q c).chunks) _ (along_low low (walk format d q) (again q) (body_at at c + 0) (kids format q c).chunks (omega (arith, le))) (tt, tt)

low_by : (low at : ℕ) (c : Chunk) (t u : Bool) → low ≤ at → AllByRecursion (λ (r : RowTable). low < r.at) (cond t (table_of be32 at c ∷ []) (cond u (table_of be64 at c ∷ []) []))
low_by low at c true u le = (omega (arith, le), tt)
low_by low at c false true le = (omega (arith, le), tt)
low_by low at c false false le = tt

pub step_low : (low : ℕ) (s : Step Place) → StepLow low s → AllByRecursion (λ (r : RowTable). low < r.at) (step_tables s)
step_low low (chunk_at stbl at c) le = low_by low at c (is c (codes "stco")) (is c (codes "co64")) le
step_low low (chunk_at file at c) le = tt
step_low low (chunk_at user_data at c) le = tt
step_low low (chunk_at moov at c) le = tt
step_low low (chunk_at trak at c) le = tt
step_low low (chunk_at mdia at c) le = tt
step_low low (chunk_at minf at c) le = tt
step_low low (chunk_at dinf at c) le = tt
step_low low (end_at p at stop) le = tt

pub rows_low : (low : ℕ) (ss : List (Step Place)) → AllByRecursion (StepLow low) ss → AllByRecursion (λ (r : RowTable). low < r.at) (flat_map step_tables ss)
rows_low low [] h = tt
rows_low low (s ∷ ss) h = all_join (λ (r : RowTable). low < r.at) (step_tables s) (flat_map step_tables ss) (step_low low s h.0) (rows_low low ss h.1)

ascend_end : (low high : ℕ) (cs : List Cut) → Ascend low cs high → low ≤ high
ascend_end low high [] h = h
ascend_end low high (c ∷ cs) h = omega (arith, h.0, ascend_end (end_of c) high cs h.1)

ascend_below : (low high : ℕ) (cs : List Cut) → Ascend low cs high → AllByRecursion (λ (c : Cut). c.at ≤ high) cs
ascend_below low high [] h = tt
ascend_below low high (c ∷ cs) h = (omega (arith, ascend_end (end_of c) high cs h.1), ascend_below (end_of c) high cs h.1)

pub all_two : {X : Type 0} (P Q R : X → Type 0) → ((x : X) → P x → Q x → R x) → (xs : List X) → AllByRecursion P xs → AllByRecursion Q xs → AllByRecursion R xs
all_two P Q R f [] h g = tt
all_two P Q R f (x ∷ xs) h g = (f x h.0 g.0, all_two P Q R f xs h.1 g.1)

-- an atom that is no track has no tables
pub no_rows : (at : ℕ) (c : Chunk) → is c (codes "trak") ≡ false → kid_rows at c ≡ []
unfolding walk
no_rows at c n = rw n refl

no_cuts : (f : ℕ → ℕ) (at : ℕ) (c : Chunk) → is c (codes "trak") ≡ false → kid_cuts f at c ≡ []
unfolding walk
no_cuts f at c n = rw n refl

module _ (b : List ℕ) (f : ℕ → ℕ) (H : ℕ → Type 0) where
  -- ---- a table that is met

  abbrev StepHeld : Step Place → Type 0
  StepHeld (chunk_at p at c) = AllByRecursion (λ (t : Chunk). AllByRecursion H (places_in t)) (in_stbl p c)
  StepHeld (end_at p at stop) = Unit {0}

  abbrev StepTold : Step Place → Type 0
  StepTold s = AllByRecursion (RowFine b H) (step_tables s) × (step_cuts f s ≡ map (row_cut f b) (step_tables s))

  table_fine : (w : Width) (at : ℕ) (c : Chunk) → 8 + w.bytes * count c ≤ length c.body → take (length c.body) (drop (body_at at c) b) ≡ c.body → AllByRecursion H (rows w c)
      → RowFine b H (table_of w at c) × (table_cut f c (table_of w at c) ≡ row_cut f b (table_of w at c))
  table_fine w at c long met held =
      let from = body_at at c in
      let n = length c.body in
      let k = count c in
      let same = rows_same b w at c long met in
      let room : (from + 8) + w.bytes * k ≤ length b = omega (arith, long, ap length met, length-take n (drop from b), length-drop from b) in (
        (room, subst (AllByRecursion H) same held),
        ap (λ (ps : List ℕ). record { at = from + 8; len = w.bytes * k; bytes = spelled w (map f ps) }) same,
      )

  step_told : (s : Step Place) → StepFine s → Met b s → StepHeld s → StepTold s
  step_told (chunk_at stbl at c) fine met held = go (is c (codes "stco")) (is c (codes "co64")) refl refl
    where
      go : (t u : Bool) → is c (codes "stco") ≡ t → is c (codes "co64") ≡ u
          → AllByRecursion (RowFine b H) (cond t (table_of be32 at c ∷ []) (cond u (table_of be64 at c ∷ []) []))
          × (map (table_cut f c) (cond t (table_of be32 at c ∷ []) (cond u (table_of be64 at c ∷ []) [])) ≡ map (row_cut f b) (cond t (table_of be32 at c ∷ []) (cond u (table_of be64 at c ∷ []) [])))
      go true u e i =
          let four : places_in c ≡ rows be32 c = ap (λ (t : Bool). cond t (rows be32 c) (cond (is c (codes "co64")) (rows be64 c) [])) e in
          let r = table_fine be32 at c ((long_rows c fine.1.0).0 e) met (subst (AllByRecursion H) four held.0) in
          ((r.0, tt), ap (λ (x : Cut). x ∷ []) r.1)
      go false true e i =
          let eight : places_in c ≡ rows be64 c
          = ap (λ (t : Bool). cond t (rows be32 c) (cond (is c (codes "co64")) (rows be64 c) [])) e ∙ ap (λ (t : Bool). cond t (rows be64 c) []) i in
          let r = table_fine be64 at c ((long_rows c fine.1.0).1 i) met (subst (AllByRecursion H) eight held.0) in
          ((r.0, tt), ap (λ (x : Cut). x ∷ []) r.1)
      go false false e i = (tt, refl)
  step_told (chunk_at file at c) fine met held = (tt, refl)
  step_told (chunk_at user_data at c) fine met held = (tt, refl)
  step_told (chunk_at moov at c) fine met held = (tt, refl)
  step_told (chunk_at trak at c) fine met held = (tt, refl)
  step_told (chunk_at mdia at c) fine met held = (tt, refl)
  step_told (chunk_at minf at c) fine met held = (tt, refl)
  step_told (chunk_at dinf at c) fine met held = (tt, refl)
  step_told (end_at p at stop) fine met held = (tt, refl)

  steps_told : (ss : List (Step Place)) → AllByRecursion StepFine ss → AllByRecursion (Met b) ss → AllByRecursion StepHeld ss
      → AllByRecursion (RowFine b H) (flat_map step_tables ss) × (flat_map (step_cuts f) ss ≡ map (row_cut f b) (flat_map step_tables ss))
  steps_told [] fine met held = (tt, refl)
  steps_told (s ∷ ss) fine met held =
      let one = step_told s fine.0 met.0 held.0 in
      let more = steps_told ss fine.1 met.1 held.1 in (
        all_join (RowFine b H) (step_tables s) (flat_map step_tables ss) one.0 more.0,
        ap (λ (x : List Cut). x ++ flat_map (step_cuts f) ss) one.1 ∙ ap (λ (x : List Cut). map (row_cut f b) (step_tables s) ++ x) more.1
            ∙ sym (map-both (row_cut f b) (step_tables s) (flat_map step_tables ss)),
      )

  -- ---- the places in the tables of a track

  all_places : (ts : List Chunk) → AllByRecursion H (places ts) → AllByRecursion (λ (t : Chunk). AllByRecursion H (places_in t)) ts
  all_places [] h = tt
  all_places (t ∷ ts) h = let q = all_parts H (places_in t) (places ts) h in (q.0, all_places ts q.1)

  held_steps : (ss : List (Step Place)) → AllByRecursion (λ (t : Chunk). AllByRecursion H (places_in t)) (flat_map (λ (l : Leaf Place). in_stbl l.place l.chunk) (flat_map chunk_met ss)) → AllByRecursion StepHeld ss
  held_steps [] h = tt
  held_steps (chunk_at p at c ∷ ss) h =
      let q = all_parts (λ (t : Chunk). AllByRecursion H (places_in t)) (in_stbl p c) (flat_map (λ (l : Leaf Place). in_stbl l.place l.chunk) (flat_map chunk_met ss)) h in
      (q.0, held_steps ss q.1)
  held_steps (end_at p at stop ∷ ss) h = (tt, held_steps ss h)

  held_walk : (at : ℕ) (c : Chunk) → AllByRecursion H (places (tables c)) → AllByRecursion StepHeld (walk format 5 moov at c)
  held_walk at c h = held_steps (walk format 5 moov at c) (subst (AllByRecursion (λ (t : Chunk). AllByRecursion H (places_in t))) (sym (tables_met at c)) (all_places (tables c) h))

  -- ---- an atom of moov

  -- Its tables lie in the file and in it, and what an edit makes of them is told by their rows in the file.
  pub record KidTold (at : ℕ) (c : Chunk) : Type 0 where
    pub cuts_are : kid_cuts f at c ≡ map (row_cut f b) (kid_rows at c)
    pub fine : AllByRecursion (RowFine b H) (kid_rows at c)
    pub begins : AllByRecursion (Begins at (at + length (spell c))) (kid_rows at c)

  below_of : (high : ℕ) (rs : List RowTable) → AllByRecursion (λ (c : Cut). c.at ≤ high) (map (row_cut f b) rs) → AllByRecursion (λ (r : RowTable). r.at ≤ high) rs
  below_of high [] h = tt
  below_of high (r ∷ rs) h = (h.0, below_of high rs h.1)

  track_told : (at : ℕ) (c : Chunk) → KidOk c → IsBytes c.body → AllByRecursion (Met b) (walk format 5 moov at c) → AllByRecursion StepHeld (walk format 5 moov at c) → KidTold at c
  track_told at c k bytes met held =
      let end = at + length (spell c) in
      let t = steps_told (walk format 5 moov at c) (sound_to format AtomFine low_prefix 5 moov at c k.1.0) met held in
      let up : Ascend at (map (row_cut f b) (kid_rows at c)) end
      = subst (λ (xs : List Cut). Ascend at xs end) (append-nil (kid_cuts f at c) ∙ t.1) ((kid_makes f c k bytes at).ascend [] end (omega arith)) in
      record {
        cuts_are = t.1;
        fine = t.0;
        begins = all_two (λ (r : RowTable). at < r.at) (λ (r : RowTable). r.at ≤ end) (Begins at end) (λ r x y. (x, y)) (kid_rows at c)
            (rows_low at (walk format 5 moov at c) (walk_low at 5 moov at c (omega arith)))
            (below_of end (kid_rows at c) (ascend_below at end (map (row_cut f b) (kid_rows at c)) up));
      }

  plain_told : (at : ℕ) (c : Chunk) → is c (codes "trak") ≡ false → KidTold at c
  plain_told at c n =
      let none = no_rows at c n in
      record {
        cuts_are = no_cuts f at c n ∙ sym (ap (map (row_cut f b)) none);
        fine = subst (AllByRecursion (RowFine b H)) (sym none) tt;
        begins = subst (AllByRecursion (Begins at (at + length (spell c)))) (sym none) tt;
      }

  -- ---- all atoms of moov

  -- of each, at its place
  abbrev pub AllAlong : ℕ → List Chunk → Type 0
  AllAlong at [] = Unit {0}
  AllAlong at (c ∷ cs) = KidTold at c × AllAlong (at + length (spell c)) cs

  abbrev pub TrackHeld : Chunk → Type 0
  TrackHeld c = is c (codes "trak") ≡ true → AllByRecursion H (places (tables c))

  kid_told : (at : ℕ) (c : Chunk) → KidOk c → IsBytes c.body → TrackHeld c → Lies b at (spell c) → KidTold at c
  kid_told at c k bytes held lies = go (is c (codes "trak")) refl
    where
      go : (t : Bool) → is c (codes "trak") ≡ t → KidTold at c
      go true e = track_told at c k bytes (met_walk b 5 moov at c bytes lies) (held_walk at c (held e))
      go false e = plain_told at c e

  pub kids_told : (at : ℕ) (cs : List Chunk) → AllByRecursion KidOk cs → AllByRecursion (λ c. IsBytes c.body) cs → AllByRecursion TrackHeld cs → Lies b at (spell_all cs) → AllAlong at cs
  kids_told at [] k bytes held lies = tt
  kids_told at (c ∷ cs) k bytes held lies =
      (kid_told at c k.0 bytes.0 held.0 (lie_first b at (spell c) (spell_all cs) lies), kids_told (at + length (spell c)) cs k.1 bytes.1 held.1 (lie_then b at (spell c) (spell_all cs) lies))

-- ---- the tables as they are met in moov

row_none : (at : ℕ) (cs : List Chunk) (rest : List (Step Place)) → flat_map step_tables (row user_data at cs ++ rest) ≡ flat_map step_tables rest
row_none at [] rest = refl
row_none at (c ∷ cs) rest = row_none (at + length (spell c)) cs rest

rows_of_kid : (t : Bool) (at : ℕ) (c : Chunk) → (t ≡ true → is c (codes "trak") ≡ false) → flat_map step_tables (kid_steps t at c) ≡ kid_rows at c
rows_of_kid true at c plain = row_none (body_at at c) (udta.opening c).chunks _ ∙ sym (no_rows at c (plain refl))
rows_of_kid false at c plain = refl

pub rows_inside : (seen : Bool) (at : ℕ) (cs : List Chunk) → flat_map step_tables (inside_steps seen at cs) ≡ along kid_rows at cs
rows_inside seen at [] = refl
rows_inside seen at (c ∷ cs) =
    let t = not seen && udta.is c in
    let rest = inside_steps (seen || udta.is c) (at + length (spell c)) cs in
    flat_map-append step_tables (kid_steps t at c) rest
    ∙ ap (λ (x : List RowTable). x ++ flat_map step_tables rest) (rows_of_kid t at c (λ e. rw (same_true c.id (codes "udta") (and_parts (not seen) (udta.is c) e).1) refl))
    ∙ ap (λ (x : List RowTable). kid_rows at c ++ x) (rows_inside (seen || udta.is c) (at + length (spell c)) cs)

-- what is known of the tracks, for the atoms of moov
pub each_track : (P : Chunk → Type 0) (cs : List Chunk) → AllByRecursion P (flat_map track_of (solids is_padding cs)) → AllByRecursion (λ c. is c (codes "trak") ≡ true → P (record c { pad = [] })) cs
each_track P [] h = tt
each_track P (c ∷ cs) h = go (is_padding c.id) (is c (codes "trak")) refl refl h (each_track P cs)
  where
    go : (t u : Bool) → is_padding c.id ≡ t → is c (codes "trak") ≡ u → AllByRecursion P (flat_map track_of (cond t [] (record c { pad = [] } ∷ []) ++ solids is_padding cs))
        → (AllByRecursion P (flat_map track_of (solids is_padding cs)) → AllByRecursion (λ c. is c (codes "trak") ≡ true → P (record c { pad = [] })) cs)
        → (is c (codes "trak") ≡ true → P (record c { pad = [] })) × AllByRecursion (λ c. is c (codes "trak") ≡ true → P (record c { pad = [] })) cs
    go true u e i h again = ((λ x. let no : is_padding c.id ≡ false = rw (same_true c.id (codes "trak") x) refl in absurd cc), again h)
    go false true e i h again =
        let k : AllByRecursion P (cond true (record c { pad = [] } ∷ []) [] ++ flat_map track_of (solids is_padding cs))
        = subst (λ (u : Bool). AllByRecursion P (cond u (record c { pad = [] } ∷ []) [] ++ flat_map track_of (solids is_padding cs))) i h in
        ((λ x. k.0), again k.1)
    go false false e i h again =
        let k : AllByRecursion P (cond false (record c { pad = [] } ∷ []) [] ++ flat_map track_of (solids is_padding cs))
        = subst (λ (u : Bool). AllByRecursion P (cond u (record c { pad = [] } ∷ []) [] ++ flat_map track_of (solids is_padding cs))) i h in
        ((λ x. absurd cc), again k)
