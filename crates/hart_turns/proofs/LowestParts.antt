-- How the steps of one hart go and end, and those of the first harts.
use Rattle.std.proofs.Common.{◌≡◌, ◌≢◌, ℕ, zero, suc, ◌+◌, ◌<◌, ◌≤◌, ⊎_elim, Bool, true, false, cond, length, refl, sym, ap, ◌∙◌, arith, subst}
use Rattle.std.specs.Prelude.{Option, Some, None}
use Rattle.std.proofs.lemmas.Bool.{cases_eq}
use Rattle.hart_step.specs.Harts.{hart_of, is_in_debug, lowest_in_debug}
use Rattle.hart_turns.specs.declared.booting.BootFault.{BootFault}
use Rattle.hart_turns.specs.declared.booting.BootFault.TheVariants.{Trap, Long}
use Rattle.hart_turns.specs.Boot.{Booted, Booting, boot_hart, boot_harts, boot_step, boots_next, most_steps, onward, step_exception}
use Rattle.hart_turns.specs.Lowest.{LowestLead, steps_of}
use Rattle.hart_turns.proofs.BootLaws.{At, at_stays, boot_many, harts_free, lowest_is}
use Rattle.hart_turns.proofs.Lowest.{counted, counts_both, leads_both, no_lead, none_counted, one_lead, one_other, one_own}

-- where steps without an exception led to c, what is left, with the fault that ended it or none
abbrev pub left_at : Booting → Option BootFault → Booting
left_at c None = c
left_at c (Some (Trap h pc cause)) = boot_step h c
left_at c (Some (Long h)) = c

-- ---- one hart

-- n steps lead from b to c, all of hart h, which is the lowest in debug mode
pub record Part (h n : ℕ) (b c : Booting) : Type 0 where
  pub lead : LowestLead n b c
  pub own : steps_of h n b ≡ n
  pub others : (j : ℕ) → j ≢ h → steps_of j n b ≡ 0

part_none : (h : ℕ) (b : Booting) → Part h 0 b b
part_none h b = record { lead = no_lead b b refl; own = none_counted h b; others = λ j other. none_counted j b }

part_more : (h n : ℕ) (b c : Booting) → lowest_in_debug b.core ≡ Some h → step_exception h b ≡ None → Part h n (boot_step h b) c → Part h (suc n) b c
part_more h n b c lowest none rest = record {
  lead = one_lead n h b c lowest none rest.lead;
  own = let a = counted h n h b lowest in let e = one_own h in let r = rest.own in omega (arith, a, e, r);
  others = λ j other. let a = counted j n h b lowest in let e = one_other h j other in let r = rest.others j other in omega (arith, a, e, r);
}

-- why hart h stops at c after k of so many steps
abbrev HartStops : ℕ → ℕ → ℕ → Booting → Option BootFault → Type 0
HartStops fuel h k c None = Unit {0}
HartStops fuel h k c (Some (Trap i pc cause)) = (i ≡ h) × (lowest_in_debug c.core ≡ Some i) × (step_exception i c ≡ Some (pc, cause)) × (k < fuel)
HartStops fuel h k c (Some (Long i)) = (i ≡ h) × (lowest_in_debug c.core ≡ Some i) × (k ≡ fuel)

stops_later : (fuel h k : ℕ) (c : Booting) (fault : Option BootFault) → HartStops fuel h k c fault → HartStops (suc fuel) h (suc k) c fault
stops_later fuel h k c None stops = tt
stops_later fuel h k c (Some (Trap i pc cause)) stops = (stops.0, stops.1, stops.2, omega (arith, stops.3))
stops_later fuel h k c (Some (Long i)) stops = (stops.0, stops.1, ap (λ n. suc n) stops.2)

record PartEnds (fuel h : ℕ) (b : Booting) (x : Booted) : Type 0 where
  made : ℕ
  at : Booting
  few : made ≤ fuel
  part : Part h made b at
  stops : HartStops fuel h made at x.fault
  left : x.left ≡ left_at at x.fault

part_choice : (fuel h : ℕ) (b : Booting) (c : Bool) → is_in_debug (hart_of (boot_step h b).core h) ≡ c → lowest_in_debug b.core ≡ Some h → step_exception h b ≡ None → (is_in_debug (hart_of (boot_step h b).core h) ≡ true → PartEnds fuel h (boot_step h b) (boot_hart fuel h (boot_step h b))) → PartEnds (suc fuel) h b (cond c (boot_hart fuel h (boot_step h b)) (record { left = boot_step h b; fault = None }))
part_choice fuel h b true is lowest none goes =
    let rest : PartEnds fuel h (boot_step h b) (boot_hart fuel h (boot_step h b)) = goes is in
    record {
      made = suc rest.made;
      at = rest.at;
      few = let a = rest.few in omega (arith, a);
      part = part_more h rest.made b rest.at lowest none rest.part;
      stops = stops_later fuel h rest.made rest.at (boot_hart fuel h (boot_step h b)).fault rest.stops;
      left = rest.left;
    }
part_choice fuel h b false is lowest none goes = record {
  made = suc 0;
  at = boot_step h b;
  few = omega arith;
  part = part_more h 0 b (boot_step h b) lowest none (part_none h (boot_step h b));
  stops = tt;
  left = refl;
}

part_onward : (fuel h : ℕ) (b : Booting) (e : Option (ℕ × ℕ)) → step_exception h b ≡ e → lowest_in_debug b.core ≡ Some h → (is_in_debug (hart_of (boot_step h b).core h) ≡ true → PartEnds fuel h (boot_step h b) (boot_hart fuel h (boot_step h b))) → PartEnds (suc fuel) h b (onward h e (boot_step h b) (boot_hart fuel h))
part_onward fuel h b (Some e) shown lowest goes = record {
  made = 0;
  at = b;
  few = omega arith;
  part = part_none h b;
  stops = (refl, lowest, shown, omega arith);
  left = refl;
}
part_onward fuel h b None shown lowest goes = part_choice fuel h b (is_in_debug (hart_of (boot_step h b).core h)) refl lowest shown goes

-- hart h is the lowest where those below it are out of debug mode
lowest_at : (h : ℕ) (b : Booting) → At h b → is_in_debug (hart_of b.core h) ≡ true → lowest_in_debug b.core ≡ Some h
lowest_at h b at debugs = lowest_is b.core.harts h at.1 at.0 debugs

part_ends : (fuel h : ℕ) (b : Booting) → At h b → is_in_debug (hart_of b.core h) ≡ true → PartEnds fuel h b (boot_hart fuel h b)
unfolding boot_hart
part_ends zero h b at debugs = record {
  made = 0;
  at = b;
  few = omega arith;
  part = part_none h b;
  stops = (refl, lowest_at h b at debugs, refl);
  left = refl;
}
part_ends (suc fuel) h b at debugs =
    part_onward fuel h b (step_exception h b) refl (lowest_at h b at debugs) (λ still. part_ends fuel h (boot_step h b) (at_stays h b at) still)

-- ---- the first harts

-- why a boot from b stops at c after k steps without an exception
abbrev pub FaultStops : ℕ → Booting → Booting → BootFault → Type 0
FaultStops k b c (Trap h pc cause) = (lowest_in_debug c.core ≡ Some h) × (step_exception h c ≡ Some (pc, cause)) × (steps_of h k b < most_steps)
FaultStops k b c (Long h) = (lowest_in_debug c.core ≡ Some h) × (steps_of h k b ≡ most_steps)

abbrev pub HartsStop : ℕ → Booting → Booting → Option BootFault → Type 0
HartsStop k b c None = Unit {0}
HartsStop k b c (Some fault) = FaultStops k b c fault

-- hart h stops: its steps are all of its own
stops_joined : (n k made : ℕ) (b c : Booting) (fault : Option BootFault) → steps_of n k b ≡ made → HartStops most_steps n made c fault → HartsStop k b c fault
stops_joined n k made b c None own stops = tt
stops_joined n k made b c (Some (Trap i pc cause)) own stops =
    (stops.1, stops.2, let e : steps_of i k b ≡ steps_of n k b = ap (λ h. steps_of h k b) stops.0 in omega (arith, e, own, stops.3))
stops_joined n k made b c (Some (Long i)) own stops = (stops.1, ap (λ h. steps_of h k b) stops.0 ∙ own ∙ stops.2)

pub record HartsEnd (n : ℕ) (b : Booting) (x : Booted) : Type 0 where
  pub made : ℕ
  pub at : Booting
  pub lead : LowestLead made b at
  pub most : (j : ℕ) → steps_of j made b ≤ most_steps
  pub above : x.fault ≡ None → (j : ℕ) → n ≤ j → steps_of j made b ≡ 0
  pub stops : HartsStop made b at x.fault
  pub left : x.left ≡ left_at at x.fault

-- the steps of hart n join those of the harts before it
joins : (n k : ℕ) (b x : Booting) (y : Booted) → LowestLead k b x → ((j : ℕ) → steps_of j k b ≤ most_steps) → ((j : ℕ) → n ≤ j → steps_of j k b ≡ 0) → PartEnds most_steps n x y → HartsEnd (suc n) b y
joins n k b x y lead most above ends =
    let part : Part n ends.made x ends.at = ends.part in
    let few : ends.made ≤ most_steps = ends.few in
    let both : (j : ℕ) → steps_of j (k + ends.made) b ≡ steps_of j k b + steps_of j ends.made x = λ j. counts_both j k ends.made b x lead in
    let own : steps_of n (k + ends.made) b ≡ ends.made = let a = both n in let z = above n (omega arith) in let p = part.own in omega (arith, a, z, p) in
    record {
      made = k + ends.made;
      at = ends.at;
      lead = leads_both k ends.made b x ends.at lead part.lead;
      most = λ j. ⊎_elim
          (λ e. let s : steps_of j (k + ends.made) b ≡ steps_of n (k + ends.made) b = ap (λ h. steps_of h (k + ends.made) b) e in omega (arith, s, own, few))
          (λ other. let a = both j in let z = part.others j other in let p = most j in omega (arith, a, z, p))
          (cases_eq j n);
      above = λ none j over. let a = both j in let z = part.others j (λ e. absurd (omega (arith, e, over))) in let p = above j (omega arith) in omega (arith, a, z, p);
      stops = stops_joined n (k + ends.made) ends.made b ends.at y.fault own ends.stops;
      left = ends.left;
    }

next_choice : (n : ℕ) (b x : Booting) (c : Bool) → is_in_debug (hart_of x.core n) ≡ c → At n x → HartsEnd n b (record { left = x; fault = None }) → HartsEnd (suc n) b (cond c (boot_hart most_steps n x) (record { left = x; fault = None }))
next_choice n b x true is at ends =
    joins n ends.made b x (boot_hart most_steps n x) (subst (λ c. LowestLead ends.made b c) (sym ends.left) ends.lead) ends.most (ends.above refl) (part_ends most_steps n x at is)
next_choice n b x false is at ends = record {
  made = ends.made;
  at = ends.at;
  lead = ends.lead;
  most = ends.most;
  above = λ none j over. ends.above refl j (omega (arith, over));
  stops = tt;
  left = ends.left;
}

next_ends : (n : ℕ) (b x : Booting) (fault : Option BootFault) → (fault ≡ None → At n x) → HartsEnd n b (record { left = x; fault = fault }) → HartsEnd (suc n) b (boots_next n x fault)
next_ends n b x None at ends = next_choice n b x (is_in_debug (hart_of x.core n)) refl (at refl) ends
next_ends n b x (Some fault) at ends = record {
  made = ends.made;
  at = ends.at;
  lead = ends.lead;
  most = ends.most;
  above = λ none. absurd (cc);
  stops = ends.stops;
  left = ends.left;
}

pub harts_end : (n : ℕ) (b : Booting) → n ≤ length b.core.harts → HartsEnd n b (boot_harts n b)
unfolding boot_harts
harts_end zero b few = record {
  made = 0;
  at = b;
  lead = no_lead b b refl;
  most = λ j. let z = none_counted j b in omega (arith, z);
  above = λ none j over. none_counted j b;
  stops = tt;
  left = refl;
}
harts_end (suc n) b few =
    next_ends n b (boot_harts n b).left (boot_harts n b).fault
    (λ none. (λ j below. harts_free n b none j below, omega (arith, few, boot_many n b)))
    (harts_end n b (omega arith))
