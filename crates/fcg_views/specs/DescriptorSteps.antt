-- Descriptors read byte by byte: a state for each front of a method descriptor.
use Rattle.std.specs.Prelude.{ℕ, length, min, ◌+◌, ◌-◌, ◌^◌, List, [], ◌∷◌, Bool, true, false, not, nat_eq, ◌&&◌, is_ok, ◌||◌, ◌==◌, nat_lt, nat_le, Option, Some, None, Result, Ok, Err, if◌then◌else◌}
use Rattle.std.specs.Cmp.Lexicographic.{pointwise}
use Rattle.fcg_views.specs.declared.descriptor.DescSpan.{DescSpan}
use Rattle.fcg_views.specs.declared.descriptor.DescFault.{DescFault}
use Rattle.fcg_views.specs.declared.descriptor.DescState.{DescState}
use Rattle.fcg_views.specs.Descriptor.{is_letter, letter_units}
use Rattle.fcg_views.specs.declared.descriptor.DescState.TheVariants.{Start, Parameters, Array, Name, Returned, ReturnedArray, ReturnedName, Done}

-- a parameter that takes so many units more, where they fit
abbrev pub taken : ℕ → ℕ → ℕ → Option DescState
taken count units more = if nat_le (units + more) 255 then Some (Parameters (count + 1) (units + more)) else None

-- what the parameters were, where the `)` stands at a place
abbrev pub closed : ℕ → ℕ → ℕ → DescSpan
closed count units at = record { parameters = count; units = units; result_at = min (at + 1) (2 ^ 32 - 1) }

abbrev pub parameter_step : ℕ → ℕ → ℕ → ℕ → Option DescState
parameter_step count units at b =
    if b == 41 then Some (Returned (closed count units at))
    else (if is_letter b then taken count units (letter_units b)
    else (if nat_le 255 units then None
    else (if b == 91 then Some (Array count units 1)
    else (if b == 76 then Some (Name count units false) else None))))

abbrev pub array_step : ℕ → ℕ → ℕ → ℕ → Option DescState
array_step count units dimensions b =
    if is_letter b then taken count units 1
    else (if b == 76 then Some (Name count units false)
    else (if b == 91 then (if nat_lt dimensions 255 then Some (Array count units (dimensions + 1)) else None) else None))

abbrev pub name_step : ℕ → ℕ → Bool → ℕ → Option DescState
name_step count units filled b =
    if b == 59 then (if filled then taken count units 1 else None) else Some (Name count units true)

abbrev pub result_step : DescSpan → ℕ → Option DescState
result_step span b =
    if b == 86 || is_letter b then Some (Done span)
    else (if b == 91 then Some (ReturnedArray span 1) else (if b == 76 then Some (ReturnedName span false) else None))

abbrev pub result_array_step : DescSpan → ℕ → ℕ → Option DescState
result_array_step span dimensions b =
    if is_letter b then Some (Done span)
    else (if b == 76 then Some (ReturnedName span false)
    else (if b == 91 then (if nat_lt dimensions 255 then Some (ReturnedArray span (dimensions + 1)) else None) else None))

abbrev pub result_name_step : DescSpan → Bool → ℕ → Option DescState
result_name_step span filled b = if b == 59 then (if filled then Some (Done span) else None) else Some (ReturnedName span true)

-- the state after a byte that stands at a place
abbrev pub step : DescState → ℕ → ℕ → Option DescState
step Start at b = if b == 40 then Some (Parameters 0 0) else None
step (Parameters count units) at b = parameter_step count units at b
step (Array count units dimensions) at b = array_step count units dimensions b
step (Name count units filled) at b = name_step count units filled b
step (Returned span) at b = result_step span b
step (ReturnedArray span dimensions) at b = result_array_step span dimensions b
step (ReturnedName span filled) at b = result_name_step span filled b
step (Done span) at b = None

-- the state after the bytes, or the place of the first that no descriptor has there
abbrev pub goes : Option DescState → (DescState → Result DescState ℕ) → ℕ → Result DescState ℕ
goes None next at = Err at
goes (Some s) next at = next s

abbrev pub scan_from : ℕ → DescState → List ℕ → Result DescState ℕ
scan_from at s [] = Ok s
scan_from at s (b ∷ bs) = goes (step s at b) (λ t. scan_from (at + 1) t bs) at

abbrev pub scan : List ℕ → Result DescState ℕ
scan text = scan_from 0 Start text

-- a place that is too large for its field is given as the field's last value
abbrev pub fault_at : ℕ → DescFault
fault_at at = record { offset = min at (2 ^ 32 - 1) }

-- a text that ends in the midst of a descriptor breaks at its end
abbrev pub ended : DescState → ℕ → Result DescSpan DescFault
ended (Done span) at = Ok span
ended s at = Err (fault_at at)

abbrev pub result_of_scan : ℕ → Result DescState ℕ → Result DescSpan DescFault
result_of_scan end (Ok s) = ended s end
result_of_scan end (Err at) = Err (fault_at at)

-- what a text says, as a method descriptor
abbrev pub descriptor_of : List ℕ → Result DescSpan DescFault
descriptor_of text = result_of_scan (length text) (scan text)

-- a field descriptor is read as a result, after no parameters
abbrev pub no_parameters : DescSpan
no_parameters = record { parameters = 0; units = 0; result_at = 0 }

-- whether a text begins with `V`
abbrev pub begins_with_void : List ℕ → Bool
begins_with_void [] = false
begins_with_void (b ∷ bs) = b == 86

-- only whether a text was read
abbrev pub without_span : Result DescSpan DescFault → Result (Unit {0}) DescFault
without_span (Ok span) = Ok tt
without_span (Err fault) = Err fault

-- what a text says, as a field descriptor: `V` is a result, and no field
abbrev pub field_descriptor_of : List ℕ → Result (Unit {0}) DescFault
field_descriptor_of text =
    if begins_with_void text then Err (fault_at 0) else without_span (result_of_scan (length text) (scan_from 0 (Returned no_parameters) text))

-- whether the text is a method descriptor
abbrev pub is_descriptor : List ℕ → Bool
is_descriptor text = is_ok (descriptor_of text)

-- whether the text is a field descriptor: it can stand after `()` in a method descriptor, and isn't `V`
abbrev pub is_void : List ℕ → Bool
is_void text = pointwise nat_eq text (86 ∷ [])

abbrev pub is_field_descriptor : List ℕ → Bool
is_field_descriptor text = not (is_void text) && is_descriptor (40 ∷ 41 ∷ text)
