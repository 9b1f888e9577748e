-- The fields of a record, the order in which they are compared, and the first one in which two records differ.
use Rattle.std.specs.Prelude.{ℕ, Bool, true, false, not, List, [], ◌∷◌, Option, Some, None, find, ◌==◌}
use Rattle.hart_step.specs.declared.event.Event.{Event}
use Rattle.hart_step.specs.declared.event.Event.TheVariants.{Commit, Exception, Interrupt, Host}
use Rattle.hart_step.specs.declared.event.Priv.{Priv}
use Rattle.hart_step.specs.declared.event.Priv.TheVariants as privileges
use Rattle.hart_step.specs.declared.event.Put.{Put}
use Rattle.cosim_check.specs.declared.verdict.Field.{Field}
use Rattle.cosim_check.specs.declared.verdict.Field.TheVariants as fields

abbrev pub fields_in_order : List Field
fields_in_order =
    fields.Hart ∷ fields.Kind ∷ fields.Mode ∷ fields.Pc ∷ fields.Insn ∷ fields.Rd ∷ fields.Value
    ∷ fields.StoreAt ∷ fields.StoreSize ∷ fields.StoreValue ∷ fields.Device ∷ fields.Volatile
    ∷ fields.Cause ∷ fields.Tval ∷ fields.Host ∷ []

-- the number of a privilege (Privileged ISA, "Privilege Levels"); debug mode, which has none there, has 4
abbrev pub mode_number : Priv → ℕ
mode_number privileges.U = 0
mode_number privileges.S = 1
mode_number privileges.M = 3
mode_number privileges.D = 4

-- ---- the value of a field in a record of each kind; a part that is absent has none

abbrev pub register_shown : Option (ℕ × ℕ) → Option ℕ
register_shown None = None
register_shown (Some rd) = Some rd.0

abbrev pub value_shown : Option (ℕ × ℕ) → Option ℕ
value_shown None = None
value_shown (Some rd) = Some rd.1

abbrev pub store_shown : (Put → ℕ) → Option Put → Option ℕ
store_shown part None = None
store_shown part (Some st) = Some (part st)

abbrev pub commit_value : Field → ℕ → Priv → ℕ → ℕ → Option (ℕ × ℕ) → Option Put → Option ℕ → Option ℕ → Option ℕ
commit_value fields.Hart hart mode pc insn rd st dv vl = Some hart
commit_value fields.Kind hart mode pc insn rd st dv vl = Some 0
commit_value fields.Mode hart mode pc insn rd st dv vl = Some (mode_number mode)
commit_value fields.Pc hart mode pc insn rd st dv vl = Some pc
commit_value fields.Insn hart mode pc insn rd st dv vl = Some insn
commit_value fields.Rd hart mode pc insn rd st dv vl = register_shown rd
commit_value fields.Value hart mode pc insn rd st dv vl = value_shown rd
commit_value fields.StoreAt hart mode pc insn rd st dv vl = store_shown (λ put. put.at) st
commit_value fields.StoreSize hart mode pc insn rd st dv vl = store_shown (λ put. put.size) st
commit_value fields.StoreValue hart mode pc insn rd st dv vl = store_shown (λ put. put.value) st
commit_value fields.Device hart mode pc insn rd st dv vl = dv
commit_value fields.Volatile hart mode pc insn rd st dv vl = vl
commit_value _ hart mode pc insn rd st dv vl = None

abbrev pub exception_value : Field → ℕ → Priv → ℕ → ℕ → ℕ → Option ℕ
exception_value fields.Hart hart mode pc cause tval = Some hart
exception_value fields.Kind hart mode pc cause tval = Some 1
exception_value fields.Mode hart mode pc cause tval = Some (mode_number mode)
exception_value fields.Pc hart mode pc cause tval = Some pc
exception_value fields.Cause hart mode pc cause tval = Some cause
exception_value fields.Tval hart mode pc cause tval = Some tval
exception_value _ hart mode pc cause tval = None

abbrev pub interrupt_value : Field → ℕ → ℕ → Option ℕ
interrupt_value fields.Hart hart cause = Some hart
interrupt_value fields.Kind hart cause = Some 2
interrupt_value fields.Cause hart cause = Some cause
interrupt_value _ hart cause = None

abbrev pub host_value : Field → ℕ → Option ℕ
host_value fields.Kind word = Some 3
host_value fields.Host word = Some word
host_value _ word = None

abbrev pub value_of : Field → Event → Option ℕ
value_of field (Commit hart mode pc insn rd st dv vl) = commit_value field hart mode pc insn rd st dv vl
value_of field (Exception hart mode pc cause tval) = exception_value field hart mode pc cause tval
value_of field (Interrupt hart cause) = interrupt_value field hart cause
value_of field (Host word) = host_value field word

-- ---- where two records differ

abbrev pub is_same : Option ℕ → Option ℕ → Bool
is_same None None = true
is_same None (Some b) = false
is_same (Some a) None = false
is_same (Some a) (Some b) = a == b

abbrev pub differs_in : Event → Event → Field → Bool
differs_in allowed given field = not (is_same (value_of field allowed) (value_of field given))

-- the first field in which a record differs from the allowed one, and none where it differs in no field
unfoldable pub first_difference : Event → Event → Option Field
first_difference allowed given = find (differs_in allowed given) fields_in_order
