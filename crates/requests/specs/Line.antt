-- What a line of numbers says: decimal digits, with blanks between them.
use Rattle.std.specs.Prelude.{◌≡◌, ℕ, ◌+◌, ◌-◌, ◌*◌, ◌^◌, ◌<◌, Bool, ◌||◌, List, [], ◌∷◌, length, take, drop, Ok, Err, fold, Result, ◌==◌}
use Rattle.std.specs.Char.{is_ascii_digit}
use Rattle.std.specs.List.{prefix_len}
use Rattle.requests.specs.declared.request.Request.{Request}
use Rattle.requests.specs.declared.request.BadLine.{BadLine}

-- a space, a tab, or an end of a line
abbrev pub blank : ℕ → Bool
blank b = b == 32 || b == 9 || b == 10 || b == 13

-- the number that digits write, the first digit the highest
abbrev pub appended : ℕ → ℕ → ℕ
appended n b = 10 * n + (b - 48)

abbrev pub value_of : List ℕ → ℕ
value_of ds = fold appended 0 ds

-- the text behind its first blanks
abbrev pub unblanked : List ℕ → List ℕ
unblanked text = drop (prefix_len blank text) text

-- the first run of digits, and the text behind it
abbrev pub digits : List ℕ → List ℕ
digits text = take (prefix_len is_ascii_digit (unblanked text)) (unblanked text)

abbrev pub behind : List ℕ → List ℕ
behind text = drop (prefix_len is_ascii_digit (unblanked text)) (unblanked text)

-- the text begins, after blanks, with the number n
pub record Begins (text : List ℕ) (n : ℕ) : Type 0 where
  pub some : 0 < length (digits text)
  pub value : n ≡ value_of (digits text)
  pub small : value_of (digits text) < 2 ^ 32

-- the number that the text begins with is taken, and what is left goes on behind it; or there is none, and the text stays
abbrev pub Taken : List ℕ → Result ℕ BadLine → List ℕ → Type 0
Taken text (Ok n) left = Begins text n × (left ≡ behind text)
Taken text (Err _) left = ((n : ℕ) → Begins text n → ⊥) × (left ≡ text)

-- nothing but blanks
abbrev pub OnlyBlanks : List ℕ → Type 0
OnlyBlanks text = prefix_len blank text ≡ length text

-- the text is these numbers, in their order, and nothing more
abbrev pub Numbers : List ℕ → List ℕ → Type 0
Numbers text [] = OnlyBlanks text
Numbers text (n ∷ ns) = Begins text n × Numbers (behind text) ns

-- a request as its line gives it
abbrev pub listed : Request → List ℕ
listed q = q.events ∷ q.resends ∷ q.denominator ∷ q.request ∷ q.receipt ∷ q.steps ∷ []

-- the request that the text is, or a text that is none
abbrev pub Parsed : List ℕ → Result Request BadLine → Type 0
Parsed text (Ok q) = Numbers text (listed q)
Parsed text (Err _) = (q : Request) → Numbers text (listed q) → ⊥
