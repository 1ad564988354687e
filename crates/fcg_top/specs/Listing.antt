-- What a listing of a bundle leaves.
use Rattle.std.specs.Prelude.{◌≡◌, ◌≢◌, ℕ, ◌<◌, ◌≤◌, IsTrue, List, length, nat_lt, IfSome, Result, Ok, Err, if◌then◌else◌}
use Rattle.fcg_grammar.specs.Reading.{seen}
use Rattle.fcg_bytes.specs.Causes.{Rose}
use Rattle.fcg_views.specs.declared.view.View.{View}
use Rattle.fcg_class.specs.declared.bundle.BundleFault.{BundleFault}
use Rattle.fcg_class.specs.declared.bundle.BundleFault.TheVariants as faults
use Rattle.fcg_class.specs.Bundle.{Content, is_jar, bundle_of}
use Rattle.fcg_class.specs.Pack.{bundle_limit}
use Rattle.fcg_top.specs.declared.words.Listing.{Listing}
use Rattle.fcg_top.specs.declared.words.Listing.TheVariants as listings
use Rattle.fcg_top.specs.declared.status.Status.{Status}
use Rattle.fcg_top.specs.declared.status.Status.TheVariants as statuses
use Rattle.fcg_top.specs.declared.status.Refusal.{Refusal}
use Rattle.fcg_top.specs.declared.status.Refusal.TheVariants as refusals
use Rattle.fcg_top.specs.Objects.{Input, Output}
use Rattle.fcg_top.specs.Text.{list_text, sites_text}
use Rattle.fcg_top.specs.Answer.{Leaves, Tells, errors_of}

-- what a listing prints of a bundle's views
abbrev pub text_of : Listing → List View → List ℕ
text_of listings.List views = list_text views
text_of listings.Sites views = sites_text views

abbrev pub answer_of_bundle : Result (List View) BundleFault → Result (List View) Refusal
answer_of_bundle (Ok views) = Ok views
answer_of_bundle (Err faults.Jar) = Err refusals.Jar
answer_of_bundle (Err (faults.Bundle offset entry rule)) = Err (refusals.BadBundle entry offset rule)
answer_of_bundle (Err (faults.Class entry f)) = Err (refusals.BadClass entry f)

-- What an input is as a bundle: its views, or a refusal.
unfoldable pub bundle_answer : List ℕ → Result (List View) Refusal
bundle_answer input = if nat_lt bundle_limit (length input) then Err refusals.BodyTooLong else answer_of_bundle (bundle_of input)

-- What a listing answers to its input: the text on the output, or a refusal.
abbrev pub listing_answer : Listing → List ℕ → Result (List ℕ) Refusal
listing_answer listing input = seen (text_of listing) (bundle_answer input)

-- An input that isn't too long and no jar has this first fault as a bundle, and so is none with any content.
abbrev pub HasFault : List ℕ → BundleFault → Type 0
HasFault input f = (length input ≤ bundle_limit) × (bundle_of input ≡ Err f) × (IsTrue (is_jar input) → ⊥) × ((views : List View) → Content input views → ⊥)

-- That answer is right: the input is a bundle with these views; or it is refused where it is too long, else where it is a
-- jar, else for the first fault that it has as a bundle.
abbrev pub IsBundle : List ℕ → Result (List View) Refusal → Type 0
IsBundle input (Ok views) = (length input ≤ bundle_limit) × Content input views
IsBundle input (Err refusals.BodyTooLong) = bundle_limit < length input
IsBundle input (Err refusals.Jar) = (length input ≤ bundle_limit) × IsTrue (is_jar input)
IsBundle input (Err (refusals.BadBundle entry offset rule)) = HasFault input (faults.Bundle offset entry rule)
IsBundle input (Err (refusals.BadClass entry f)) = HasFault input (faults.Class entry f)
IsBundle input (Err refusal) = ⊥

-- A run that answered has read the whole input.
abbrev pub IfAnswered : Status → Type 0 → Type 0
IfAnswered statuses.Ok P = P
IfAnswered statuses.Refused P = P
IfAnswered statuses.WriteFailed P = P
IfAnswered status P = Unit {0}

-- Where the input tells its bytes, the output gains the answer to them, which is right, and the errors the line of the
-- status or of the refusal. A failed read has its cause.
pub record LeavesListing (listing : Listing) (status : Status) (input_old input_new : Input) (output_old output_new errors_old errors_new : Output) : Type 0 where
  pub words : status ≢ statuses.Words
  pub output : IfSome input_old.left (λ bytes. Leaves status (listing_answer listing bytes) output_old.taken output_new.taken)
  pub means : IfSome input_old.left (λ bytes. IfAnswered status (IsBundle bytes (bundle_answer bytes)))
  pub errors : IfSome input_old.left (λ bytes. Tells errors_old.faults errors_new.faults errors_old.taken errors_new.taken (errors_of status (listing_answer listing bytes)))
  pub read_failed : status ≡ statuses.ReadFailed → Rose input_old.faults input_new.faults
  pub later : input_old.faults ≤ input_new.faults
  pub aside : input_new.aside ≡ input_old.aside
