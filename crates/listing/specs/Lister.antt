-- What the lister prints for the bytes of a polygon file (paper 01: sheet).
use Rattle.std.specs.Prelude.{List, ℕ, ◌*◌, ℤ, take}
use Rattle.records.specs.Limits.{memory_width, max_words}
use Rattle.files.specs.declared.Edition.{Edition}
use Rattle.files.specs.declared.Edition.TheVariants.{New}
use Rattle.files.specs.Outcomes.{Answer, refused, done}
use Rattle.calls.specs.Rows.{plate_limit}
use Rattle.calls.specs.Outcomes.{zeros, fracture_outcome, deoverlap_outcome}
use Rattle.listing.specs.Listing.{listing, refusal_line}

-- an output or a scratch area of 512 records
abbrev pub blank : List ℤ
blank = zeros max_words

-- what is printed of an answer, with the words of the output
abbrev pub printed_as : Answer → List ℤ → List ℕ
printed_as (refused number place) out = refusal_line number place
printed_as (done pieces overlays) out = listing pieces out

-- "disjoints ... into 512 records, and prints"
unfoldable pub deoverlap_listed : List ℤ → List ℕ
deoverlap_listed a = printed_as (deoverlap_outcome plate_limit a blank blank).answer (deoverlap_outcome plate_limit a blank blank).out

-- what is printed once the polygons are cut
abbrev pub listed_as : Answer → List ℤ → List ℕ
listed_as (refused number place) out = refusal_line number place
listed_as (done pieces overlays) out = deoverlap_listed (take (memory_width * pieces) out)

-- "The lister reads a sheet on standard input, cuts, disjoints, each into 512 records, and prints.": of a reader of an edition. It cuts as source layer 0; sets are not
-- printed, so any other layer from 0 to 31 would print the same
unfoldable pub listed_by : Edition → List ℕ → List ℕ
listed_by edition file = listed_as (fracture_outcome edition plate_limit 0 file blank blank).answer (fracture_outcome edition plate_limit 0 file blank blank).out

-- "The lister takes the new edition."
abbrev pub listed : List ℕ → List ℕ
listed file = listed_by New file
