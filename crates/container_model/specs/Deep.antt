-- Chunks in chunks: what is opened, and a change of leaves that keeps their lengths.
use Rattle.std.specs.Prelude.{◌≡◌, ℕ, zero, suc, List, [], ◌∷◌, ◌++◌, length, map, take, drop, Option, Some, None, ◌≤◌}
use Rattle.std.specs.List.{flat_map, AllByRecursion}
use Rattle.container_model.specs.Chunk.{Form, Chunk, Header, Run, ends, spell_all, chunks}

-- A format's containers: where a chunk stands, its identifier and the first four bytes of its body say whether it is opened and
-- what its children stand in; so many bytes come before them, and so their headers are read.
pub record Format (P S : Type 0) : Type 0 where
  pub opens : P → List ℕ → List ℕ → Option P
  pub prefix : P → ℕ
  pub start : P → S
  pub front : S → List ℕ → Header S

-- the chunks in a chunk that is opened
abbrev pub kids : {P S : Type 0} → Format P S → P → Chunk → Run
kids f p c = chunks f.front (f.start p) (drop (f.prefix p) c.body)

-- the chunk with other chunks in it
abbrev pub with_kids : {P S : Type 0} → Format P S → P → Chunk → List Chunk → Chunk
with_kids f p c cs = record c { body = take (f.prefix p) c.body ++ (spell_all cs ++ (kids f p c).left) }

-- each leaf gets another body, so many levels deep
abbrev pub mend_at : {P S : Type 0} → Format P S → (P → Chunk → List ℕ) → (P → Chunk → Chunk) → P → Chunk → Option P → Chunk
mend_at f m deeper p c None = record c { body = m p c }
mend_at f m deeper p c (Some q) = with_kids f q c (map (deeper q) (kids f q c).chunks)

-- a chunk with each of its leaves changed
unfoldable pub mend : {P S : Type 0} → Format P S → (P → Chunk → List ℕ) → ℕ → P → Chunk → Chunk
mend f m zero p c = record c { body = m p c }
mend f m (suc d) p c = mend_at f m (mend f m d) p c (f.opens p c.id (take 4 c.body))

-- what is opened is read to its end
abbrev pub Whole_at : {P S : Type 0} → Format P S → (P → Chunk → Type 0) → Chunk → Option P → Type 0
Whole_at f deeper c None = Unit {0}
Whole_at f deeper c (Some q) = ((kids f q c).stop ≡ ends) × (f.prefix q ≤ length c.body) × AllByRecursion (deeper q) (kids f q c).chunks

-- so many levels deep
unfoldable pub Whole : {P S : Type 0} → Format P S → ℕ → P → Chunk → Type 0
Whole f zero p c = Unit {0}
Whole f (suc d) p c = Whole_at f (Whole f d) c (f.opens p c.id (take 4 c.body))

-- the leaves, each with where it stands
pub record Leaf (P : Type 0) : Type 0 where
  pub place : P
  pub chunk : Chunk

-- a chunk as a leaf
abbrev pub stands : {P : Type 0} → P → Chunk → Leaf P
stands p c = record { place = p; chunk = c }

-- the leaves of a chunk that is opened, or the chunk as a leaf
abbrev pub leaves_at : {P S : Type 0} → Format P S → (P → Chunk → List (Leaf P)) → P → Chunk → Option P → List (Leaf P)
leaves_at f deeper p c None = stands p c ∷ []
leaves_at f deeper p c (Some q) = flat_map (deeper q) (kids f q c).chunks

-- the leaves of a chunk, so many levels deep
unfoldable pub leaves : {P S : Type 0} → Format P S → ℕ → P → Chunk → List (Leaf P)
leaves f zero p c = stands p c ∷ []
leaves f (suc d) p c = leaves_at f (leaves f d) p c (f.opens p c.id (take 4 c.body))

-- the leaves and the ends of containers, in order; a mark stands for an item whose bytes are not looked at
pub data Token : Type 0 where
  opened : Form → List ℕ → List ℕ → Token
  closed : List ℕ → Token
  leaf : Form → List ℕ → List ℕ → Token
  mark : List ℕ → Token

-- the tokens of a chunk that is opened, or of a leaf of which this is looked at
abbrev pub tokens_at : {P S : Type 0} → Format P S → (P → Chunk → List ℕ) → (P → Chunk → List Token) → P → Chunk → Option P → List Token
tokens_at f look deeper p c None = leaf c.form c.id (look p c) ∷ []
tokens_at f look deeper p c (Some q) = opened c.form c.id (take (f.prefix q) c.body) ∷ (flat_map (deeper q) (kids f q c).chunks ++ closed (kids f q c).left ∷ [])

-- the tokens of a chunk, so many levels deep
unfoldable pub tokens : {P S : Type 0} → Format P S → (P → Chunk → List ℕ) → ℕ → P → Chunk → List Token
tokens f look zero p c = leaf c.form c.id (look p c) ∷ []
tokens f look (suc d) p c = tokens_at f look (tokens f look d) p c (f.opens p c.id (take 4 c.body))
