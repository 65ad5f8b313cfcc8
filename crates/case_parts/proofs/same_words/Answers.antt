-- `==` of two words decides whether they are equal, and so `starts_with` whether the words of `a` are the first of `b`.
use Rattle.std.proofs.lemmas.Bool.Decides.{Decides-int_eq}
use Rattle.std.proofs.lemmas.Slice.Eq.{slice_eq-Decides}
use Rattle.case_parts.proofs.same_words.Goals as goal

pub returns : goal.returns
returns c = slice_eq-Decides Decides-int_eq _ _ _ c.starts_with.ensures.value
