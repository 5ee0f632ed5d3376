use Rattle.std.proofs.Common.{ℕ, ◌<◌, ◌∷◌, ◌++◌, get_or, sym, ◌∙◌, append_assoc, append-nil, arith, rules}
use Rattle.encoding.proofs.WholeEntries.{length_ch, length_wf, ch_bytes, wf_bytes, ch_fits, wf_fits, letters_of, small_behind}
use Rattle.encoding.proofs.putting.put_record.Goals as goal

pub put_parts-requires-in-Ch : goal.put_parts-requires-in-Ch
put_parts-requires-in-Ch c =
    let letters = letters_of c.letters-mark.ensures c.mark.ensures c.in-Ch.is in
    rw (letters, c.entry_count.ensures, append-nil c.in-Ch.entries.now) (omega (arith, length_ch c.in-Ch.is c.requires.whole, c.requires.room))

pub returns-in-Ch : goal.returns-in-Ch
returns-in-Ch c =
    let v = c.in-Ch in
    let es = v.entries.now in
    let letters = letters_of c.letters-mark.ensures c.mark.ensures v.is in
    let all = c.put_parts-in-Ch.ensures in
    let head = c.letters-mark.result ++ c.entry_count.result in
    let small : (j : ℕ) → get_or es j 0 < 256 = small_behind head es _ (all ∙ simp append_assoc) (λ j. (c.type_inv.room j).fits) in
    record {
      value = all ∙ rw (letters, c.entry_count.ensures, append-nil es) (sym (ch_bytes v.is c.requires.whole small));
      fit = ch_fits v.is c.requires.whole small;
    }

pub put_parts-requires-in-Wf : goal.put_parts-requires-in-Wf
put_parts-requires-in-Wf c =
    let letters = letters_of c.letters-mark.ensures c.mark.ensures c.in-Wf.is in
    let es = c.in-Wf.entries.now in
    rw (letters, c.two-in-Wf.ensures, c.two-in-Wf-2.ensures, c.two-in-Wf-3.ensures, c.entry_count-in-Wf.ensures, append-nil es)
    (omega (arith, length_wf c.in-Wf.is c.requires.whole, c.requires.room))

pub returns-in-Wf : goal.returns-in-Wf
returns-in-Wf c =
    let v = c.in-Wf in
    let es = v.entries.now in
    let letters = letters_of c.letters-mark.ensures c.mark.ensures v.is in
    let all = c.put_parts-in-Wf.ensures in
    let matched = c.two-in-Wf-3.result ++ c.entry_count-in-Wf.result in
    let head = c.letters-mark.result ++ (c.two-in-Wf.result ++ (v.high ∷ (c.two-in-Wf-2.result ++ matched))) in
    let small : (j : ℕ) → get_or es j 0 < 256 = small_behind head es _ (all ∙ simp append_assoc) (λ j. (c.type_inv.room j).fits) in
    record {
      value =
          all ∙ rw (letters, c.two-in-Wf.ensures, c.two-in-Wf-2.ensures, c.two-in-Wf-3.ensures, c.entry_count-in-Wf.ensures, append-nil es)
          (sym (wf_bytes v.is c.requires.whole small));
      fit = wf_fits v.is c.requires.whole small (search rules) (search rules) (search rules) (search rules);
    }
