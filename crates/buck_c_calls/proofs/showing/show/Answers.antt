use Rattle.std.proofs.Common.{◌≡◌, List, Some, get_or, length, slice_get, refl, sym, ap, ◌∙◌, subst}
use Rattle.buck_value.specs.declared.log.Log.{Log}
use Rattle.buck_dp.specs.declared.cutting.Cutting.{Cutting}
use Rattle.buck_book_postings.specs.Entry.{EntryParts}
use Rattle.buck_c_calls.specs.Shown.{ShowsLog}
use Rattle.buck_c_calls.proofs.showing.show.Goals as goal

pub returns : goal.returns
returns c =
    let logs : c.as_slice-logs.result.now ≡ c.args.entry.now.logs =
    c.as_slice-logs.ensures.value ∙ ap (λ (x : Cutting). x.logs.items) c.deref.ensures
    ∙ ap (λ (e : EntryParts). e.logs) c.entry.view_is in
    let stem : c.deref-2.result.now ≡ c.args.entry.now.stem = c.deref-2.ensures
    ∙ ap (λ (e : EntryParts). e.stem) c.entry.view_is in
    record {
      position_is = refl;
      number = ap (λ (e : EntryParts). e.number) c.entry.view_is;
      version = ap (λ (e : EntryParts). e.version) c.entry.view_is;
      worth = ap (λ (e : EntryParts). e.worth) c.entry.view_is;
      logs_number = ap (λ xs. length xs) logs;
      logs = λ k g d is. subst (λ s. ShowsLog c.args.sheet.now s g (get_or c.show_logs.new.out k d)) stem
          (c.show_logs.ensures k g d (subst (λ (gs : List Log). slice_get gs k ≡ Some g) (sym logs) is));
    }
