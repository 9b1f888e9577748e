-- The same acts over other worlds that tell the same, as over three objects that stand apart.
use Rattle.std.proofs.Common.{◌≡◌, ℕ, List, Option, sym, subst, ◌∙◌}
use Rattle.std.specs.Io.KnownBytes.{Appends}
use Rattle.outside_io.specs.Content.{Held, Told}
use Rattle.outside_acts.specs.declared.Stop.{Stop}
use Rattle.outside_acts.specs.Acts.{Act, Did, DidCut, sent}
use Rattle.outside_acts.specs.World.{World}
use Rattle.outside_acts.proofs.Algebra.{IsFiled}

appends_apart : (xs : List ℕ) (a b before now : Option (List ℕ)) → a ≡ before → b ≡ now → Appends a b xs → Appends before now xs
appends_apart xs a b before now first second appends =
    let later : Appends a now xs = subst (λ (w : Option (List ℕ)). Appends a w xs) second appends in
    subst (λ (w : Option (List ℕ)). Appends w now xs) first later

told_apart : (acts : List Act) (a b before now : Option Held) → a ≡ before → b ≡ now → Told a b (IsFiled acts)
    → Told before now (IsFiled acts)
told_apart acts a b before now first second told =
    let later : Told a now (IsFiled acts) = subst (λ (h : Option Held). Told a h (IsFiled acts)) second told in
    subst (λ (h : Option Held). Told h now (IsFiled acts)) first later

-- acts that were done
pub did_apart : {bytes : List ℕ} {from : ℕ} {acts : List Act} {a b before now : World}
    → a.held ≡ before.held → a.written ≡ before.written → b.held ≡ now.held → b.left ≡ now.left → b.written ≡ now.written
    → Did bytes from acts a b → Did bytes from acts before now
did_apart {acts = acts} {a} {b} {before} {now} held written held' left' written' did = record {
  left_is = sym left' ∙ did.left_is;
  console = appends_apart (sent acts) a.written b.written before.written now.written written written' did.console;
  files = told_apart acts a.held b.held before.held now.held held held' did.files;
}

-- acts that were cut
pub did_cut_apart : {stop : Stop} {bytes : List ℕ} {from : ℕ} {acts : List Act} {a b before now : World}
    → a.held ≡ before.held → a.written ≡ before.written → b.held ≡ now.held → b.left ≡ now.left → b.written ≡ now.written
    → DidCut stop bytes from acts a b → DidCut stop bytes from acts before now
did_cut_apart held written held' left' written' cut = record {
  front = cut.front;
  cut = cut.cut;
  did = did_apart held written held' left' written' cut.did;
}
