-- A list of words cut into records of a fixed number of words, and a buffer that holds records from its first word on.
use Rattle.std.specs.Prelude.{◌≡◌, List, [], ◌∷◌, ◌++◌, ℕ, zero, suc, ◌+◌, ◌*◌, ◌-◌, ◌/◌, ◌<◌, ◌≤◌, length, take, drop, replicate}
use Rattle.lists.specs.Lists.{All}

-- How values of A are kept in words W: the number of words of a record, the word that stands past the last record, and the way there and back.
pub record Codec (W A : Type 0) : Type 0 where
  pub width : ℕ
  pub blank : W
  pub encode : A → List W
  pub decode : List W → A

-- Values that are Good go to words and back unchanged.
pub record Readable {W A : Type 0} (C : Codec W A) (Good : A → Type 0) : Type 0 where
  pub some : 0 < C.width
  pub encode_length : (a : A) → length (C.encode a) ≡ C.width
  pub decode_encode : (a : A) → Good a → C.decode (C.encode a) ≡ a

-- So do they, and words that are Legal go to values and back unchanged.
pub record Faithful {W A : Type 0} (C : Codec W A) (Good : A → Type 0) (Legal : W → Type 0) : Type 0 where
  pub readable : Readable C Good
  pub encode_decode : (r : List W) → length r ≡ C.width → All Legal r → C.encode (C.decode r) ≡ r

module _ {W A : Type 0} (C : Codec W A) where
  -- record number i, counted from 0
  unfoldable pub record_at : List W → ℕ → A
  record_at s i = C.decode (take C.width (drop (C.width * i) s))

  -- n records from number i on
  unfoldable pub records_from : ℕ → List W → ℕ → List A
  records_from zero s i = []
  records_from (suc n) s i = record_at s i ∷ records_from n s (i + 1)

  -- how many whole records there are
  abbrev pub count : List W → ℕ
  count s = length s / C.width

  -- the records of a list of words
  abbrev pub records : List W → List A
  records s = records_from (count s) s 0

  -- the words of a list of records
  unfoldable pub words_of : List A → List W
  words_of [] = []
  words_of (r ∷ rs) = C.encode r ++ words_of rs

  -- n words with the records rs, and blank past them
  abbrev pub image : ℕ → List A → List W
  image n rs = words_of rs ++ replicate (n - C.width * length rs) C.blank

  -- the buffer d holds the records rs from its first word on, and is blank past them
  pub record Holds (d : List W) (rs : List A) : Type 0 where
    pub fit : C.width * length rs ≤ length d
    pub is : d ≡ image (length d) rs

  -- the words s with record number i set to a
  abbrev pub put_record : List W → ℕ → A → List W
  put_record s i a = take (C.width * i) s ++ (C.encode a ++ drop (C.width * i + C.width) s)

-- every word is the blank one
abbrev pub Blank : {W : Type 0} → W → List W → Type 0
Blank z d = d ≡ replicate (length d) z
