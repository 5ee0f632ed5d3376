-- A refusal in words.
use Rattle.std.specs.Prelude.{ℕ, Some, Option, List, ◌++◌, codes, decimal}
use Rattle.std.specs.Fmt.{◌++?◌}
use Rattle.std.proofs.Math.Utf8.{encode}
use Rattle.refusals.specs.declared.finder.Finder.{Finder}
use Rattle.refusals.specs.declared.finder.Finder.TheVariants.{Reader, Writer, Table, Opening, ExactValues}

-- who refused
abbrev pub finder_words : Finder → List ℕ
finder_words Reader = codes "reader"
finder_words Writer = codes "writer"
finder_words Table = codes "table"
finder_words (Opening letter) = codes "opening of source " ++ encode letter
finder_words ExactValues = codes "exact values"

-- the number, the place, why, and who refused
abbrev pub refusal_words : ℕ → ℕ → List ℕ → Finder → List ℕ
refusal_words number place why finder =
    codes "refused by "
    ++ (decimal number ++ (codes " at place "
    ++ (decimal place ++ (codes ": "
    ++ (why ++ (codes " ("
    ++ (finder_words finder ++ codes ")")))))))

-- the same where the text of the place is given, or nothing where it is not known
abbrev pub refusal_text : ℕ → Option (List ℕ) → List ℕ → Finder → Option (List ℕ)
refusal_text number place why finder =
    Some (codes "refused by ")
    ++? Some (decimal number) ++? Some (codes " at place ")
    ++? place ++? Some (codes ": ")
    ++? Some why ++? Some (codes " (")
    ++? Some (finder_words finder) ++? Some (codes ")")
