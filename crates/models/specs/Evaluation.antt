-- Concepts evaluated over all elements of a model, each into a row of its own.
use Rattle.std.specs.Prelude.{◌≡◌, ℕ, ◌*◌, ◌/◌, ◌<◌, ◌≤◌, Bool, false, not, ◌&&◌, ◌||◌, T, ◌↔◌, List, length, ◌==◌, nat_lt, slice_index}
use Rattle.bits.specs.Bits.{has}
use Rattle.rows.specs.Rows.{contains, turned}
use Rattle.logic.specs.declared.concept.Concept.{Concept}
use Rattle.logic.specs.declared.concept.Concept.TheVariants.{Top, Bottom, Name, NotName, And, Or, Only, Exists}
use Rattle.logic.specs.Interpretations.{Interpretation, Element}
use Rattle.logic.specs.Meaning.{LiesIn}
use Rattle.models.specs.declared.Model.{Model}
use Rattle.models.specs.Items.{edges_in, edge_role, edge_source, edge_target, marked}
use Rattle.bits.specs.Below.{some_below}

-- row a of the table has the elements in name a
abbrev pub Named : List ℕ → List ℕ → Type 0
Named ms table = (a e : ℕ) → a < 1024 → e < 256 → contains table a e ≡ marked ms a e

-- whether some pair of role r leads from e to an element that g passes
abbrev pub reaches : List ℕ → ℕ → (ℕ → Bool) → ℕ → Bool
reaches es r g e = some_below (edges_in es)
    (λ i. edge_role es i == r / 2 && (g (edge_target es r i) && edge_source es r i == e))

-- whether e lies in a concept, as it is computed from the rows of the parts
abbrev pub computed : Model → List ℕ → Concept → ℕ → Bool
computed m rows Top e = nat_lt e m.size
computed m rows Bottom e = false
computed m rows (Name a) e = marked m.marks.now a e
computed m rows (NotName a) e = turned (nat_lt e m.size) (marked m.marks.now a e)
computed m rows (And a b) e = contains rows a e && contains rows b e
computed m rows (Or a b) e = contains rows a e || contains rows b e
computed m rows (Only r b) e =
    turned (nat_lt e m.size) (reaches m.edges.now r (λ y. not (contains rows b y)) e)
computed m rows (Exists r b) e = reaches m.edges.now r (λ y. contains rows b y) e

-- the rows below n say which elements lie in their concepts; past the elements they are empty
abbrev pub RowsHold : Interpretation → List Concept → List ℕ → ℕ → Type 0
RowsHold I cs rows n =
    (c e : ℕ) → c < n → e < 256 → T (contains rows c e) ↔ (Element I e × LiesIn I cs c e)

-- every concept has its row, and no word past the rows has changed
pub record Evaluated (I : Interpretation) (cs : List Concept) (old new : List ℕ) : Type 0 where
  pub rows_hold : RowsHold I cs new (length cs)
  pub rest_stays : (i : ℕ) → 4 * length cs ≤ i → slice_index new i ≡ slice_index old i

-- row c has all n elements
abbrev pub RowIsFull : List ℕ → ℕ → ℕ → Type 0
RowIsFull rows n c = (e : ℕ) → e < n → T (contains rows c e)

-- the row has the first n elements alone
abbrev pub IsFullRow : ℕ → List ℕ → Type 0
IsFullRow n row = (e : ℕ) → e < 256 → has row e ≡ nat_lt e n
