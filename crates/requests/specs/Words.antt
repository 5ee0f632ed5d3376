-- What is said of a request, and of a line that is none.
use Rattle.std.specs.Prelude.{ℕ, List, ◌++◌, codes, decimal}
use Rattle.requests.specs.declared.request.Request.{Request}
use Rattle.requests.specs.declared.request.BadLine.{BadLine}

abbrev pub in_words : Request → List ℕ
in_words q =
    codes "Retry sheet: events "
    ++ (decimal q.events ++ (codes ", resends of each "
    ++ (decimal q.resends ++ (codes ". Of "
    ++ (decimal q.denominator ++ (codes " sendings "
    ++ (decimal q.request ++ (codes " lose the request and "
    ++ (decimal q.receipt ++ codes " the receipt.")))))))))

abbrev pub wanted : BadLine → List ℕ
wanted _ = codes "bad line: six whole numbers are wanted, E M D a b N, each from 0 to 4294967295"
