-- What the listing means, for every list of bytes. Each statement is proved under its name in lower case in proofs/Exact.antt.
use Rattle.std.specs.Prelude.{◌≡◌, List, ◌↔◌, ℕ, ◌<◌, take}
use Rattle.lists.specs.Lists.{All, Any}
use Rattle.geometry.specs.declared.Trapezoid.{Trapezoid}
use Rattle.geometry.specs.Points.{Point, IsPoint}
use Rattle.geometry.specs.Trapezoids.{LiesInLayer, Disjoint}
use Rattle.geometry.specs.Fitness.{FitFor}
use Rattle.fracture.specs.Statements.{Wound}
use Rattle.files.specs.declared.Edition.TheVariants.{First, New}
use Rattle.files.specs.Formats.{file_words}
use Rattle.files.specs.Contents.{polygons_of}
use Rattle.files.specs.Editions.{AllPresent}
use Rattle.calls.specs.Rows.{plate_limit}
use Rattle.listing.specs.Listing.{layer_listing, refusal_line}
use Rattle.listing.specs.Lister.{listed_by, listed}

-- the text lists these trapezoids: they are fit, no point lies in two, and a rational point lies in one exactly if the winding number of some polygon of the
-- file is not zero there
pub record Lists (file : List ℕ) (ts : List Trapezoid) : Type 0 where
  pub text : listed file ≡ layer_listing ts
  pub fit : All (FitFor plate_limit) ts
  pub disjoint : Disjoint ts
  pub points : (P : Point) → IsPoint P → LiesInLayer P ts ↔ Any (Wound P) (polygons_of New (file_words file))

-- the text is a refusal's
pub record Refuses (file : List ℕ) : Type 0 where
  pub number : ℕ
  pub place : ℕ
  pub text : listed file ≡ refusal_line number place

pub data Printed (file : List ℕ) : Type 0 where
  lists : (ts : List Trapezoid) → Lists file ts → Printed file
  refuses : Refuses file → Printed file

-- every text is one of the two
abbrev pub ListedExact : Type 0
ListedExact = (file : List ℕ) → Printed file

-- 65,533 bytes or more from the start of a file are enough to say what is printed for all of it
abbrev pub ListedByStart : Type 0
ListedByStart = (k : ℕ) (file : List ℕ) → 65532 < k → listed (take k file) ≡ listed file

-- "A sheet with every length present reads as before": its text is the one that the first edition's reader gives, byte for byte
abbrev pub ListedAsBefore : Type 0
ListedAsBefore = (file : List ℕ) → AllPresent (file_words file) → listed file ≡ listed_by First file
