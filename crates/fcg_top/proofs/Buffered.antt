-- Texts that are written through a buffer.
use Rattle.std.proofs.Common.{◌≡◌, ℕ, ◌≤◌, Bool, true, false, List, [], ◌∷◌, ◌++◌, length, take, refl, sym, ap, subst, ◌∙◌, append_assoc, arith}
use Rattle.std.specs.Prelude.{Result, Ok, Err, OnOk, OnErr}
use Rattle.std.specs.String.{string_bytes}
use Rattle.std.specs.Io.KnownBytes.{Appends}
use Rattle.std.proofs.lemmas.List.{append-nil, take_at}
use Rattle.std.proofs.lemmas.List.Concat.{flat_map-append}
use Rattle.std.proofs.KnownBytes.{Appends-trans, Appends-nil}
use Rattle.fcg_bytes.specs.Causes.{Rose}
use Rattle.fcg_views.specs.declared.escaping.Place.{Place}
use Rattle.fcg_views.specs.Escape.{escape_of, escaped, may_stand}
use Rattle.fcg_top.specs.declared.text_buffer.TextBuffer.{TextBuffer}
use Rattle.fcg_top.specs.Objects.{Output}
use Rattle.fcg_top.specs.Answer.{GainsFront}
use Rattle.fcg_top.specs.Internal.Buffered.{Holds, IsFresh, Sends, Writes}

-- nothing was added
pub Sends-none : (a : Output) (x : TextBuffer) → Sends a x a x []
Sends-none a x = record { sends = λ start text h. subst (λ (l : List ℕ). Holds start a x l) (sym (append-nil text)) h }

-- one text after another
pub Sends-trans : (a b c : Output) (x y z : TextBuffer) (s t : List ℕ) → Sends a x b y s → Sends b y c z t → Sends a x c z (s ++ t)
Sends-trans a b c x y z s t p q = record { sends = λ start text h. subst (λ (l : List ℕ). Holds start c z l) (append_assoc text s t) (q.sends start (text ++ s) (p.sends start text h)) }

-- a sink that failed gets nothing more
pub Sends-failed : (a : Output) (x : TextBuffer) (bytes : List ℕ) → x.failed ≡ true → Sends a x a x bytes
Sends-failed a x bytes failed = record {
  sends = λ start text h. record {
    front = h.front;
    rest = h.rest ++ bytes;
    parts = ap (λ (l : List ℕ). l ++ bytes) h.parts ∙ append_assoc h.front h.rest bytes;
    took = h.took;
    waits = λ e. (let bad = sym failed ∙ e in cc);
    cause = h.cause;
    later = h.later;
    aside = h.aside;
  };
}

-- bytes wait behind those that waited
pub Sends-waiting : (a : Output) (x y : TextBuffer) (bytes : List ℕ) → y.failed ≡ x.failed → string_bytes y.pending ≡ string_bytes x.pending ++ bytes → Sends a x a y bytes
Sends-waiting a x y bytes same more = record {
  sends = λ start text h. record {
    front = h.front;
    rest = h.rest ++ bytes;
    parts = ap (λ (l : List ℕ). l ++ bytes) h.parts ∙ append_assoc h.front h.rest bytes;
    took = h.took;
    waits = λ e. more ∙ ap (λ (l : List ℕ). l ++ bytes) (h.waits (sym same ∙ e));
    cause = λ e. h.cause (sym same ∙ e);
    later = h.later;
    aside = h.aside;
  };
}

rose_later : (a b c : ℕ) → Rose a b → b ≤ c → Rose a c
rose_later a b c rose le = omega (arith, rose, le)

rose_before : (a b c : ℕ) → a ≤ b → Rose b c → Rose a c
rose_before a b c le rose = omega (arith, rose, le)

-- what waited was written, and other bytes behind it
pub Sends-written : (a b : Output) (x y : TextBuffer) (all bytes : List ℕ) → Writes x.failed y.failed a b all → (x.failed ≡ false → all ≡ string_bytes x.pending ++ bytes) → string_bytes y.pending ≡ [] → Sends a x b y bytes
Sends-written a b x y all bytes w all_is empty = record { sends = λ start text h. by start text h x.failed refl } where
  by : (start : Output) (text : List ℕ) → Holds start a x text → (f : Bool) → x.failed ≡ f → Holds start b y (text ++ bytes)
  by start text h false e = record {
    front = h.front ++ w.front;
    rest = w.rest;
    parts = ap (λ (l : List ℕ). l ++ bytes) h.parts ∙ append_assoc h.front h.rest bytes
        ∙ ap (λ (l : List ℕ). h.front ++ l) (ap (λ (l : List ℕ). l ++ bytes) (sym (h.waits e)) ∙ sym (all_is e) ∙ w.parts)
        ∙ sym (append_assoc h.front w.front w.rest);
    took = Appends-trans start.taken a.taken b.taken h.front w.front h.took w.took;
    waits = λ f. empty ∙ sym ((w.whole f).1);
    cause = λ f. rose_before start.faults a.faults b.faults h.later (w.cause f e);
    later = omega (arith, h.later, w.later);
    aside = w.aside ∙ h.aside;
  }
  by start text h true e = record {
    front = h.front;
    rest = h.rest ++ bytes;
    parts = ap (λ (l : List ℕ). l ++ bytes) h.parts ∙ append_assoc h.front h.rest bytes;
    took = subst (λ (l : List ℕ). Appends start.taken b.taken l) (ap (λ (l : List ℕ). h.front ++ l) (w.stays e) ∙ append-nil h.front) (Appends-trans start.taken a.taken b.taken h.front w.front h.took w.took);
    waits = λ f. (let bad = sym e ∙ (w.whole f).0 in cc);
    cause = λ f. rose_later start.faults a.faults b.faults (h.cause e) w.later;
    later = omega (arith, h.later, w.later);
    aside = w.aside ∙ h.aside;
  }

-- where nothing waits the whole text was begun
pub Holds-fresh : (a : Output) (x : TextBuffer) → IsFresh x → Holds a a x []
Holds-fresh a x fresh = record {
  front = [];
  rest = [];
  parts = refl;
  took = Appends-nil a.taken;
  waits = λ e. fresh.0;
  cause = λ e. (let bad = sym (fresh.1) ∙ e in cc);
  later = omega arith;
  aside = refl;
}

-- all was written where nothing failed and nothing waits
pub Holds-whole : (a b : Output) (y : TextBuffer) (text : List ℕ) → Holds a b y text → y.failed ≡ false → string_bytes y.pending ≡ [] → Appends a.taken b.taken text
Holds-whole a b y text h unfailed empty =
    let none : h.rest ≡ [] = sym (h.waits unfailed) ∙ empty in
    subst (λ (l : List ℕ). Appends a.taken b.taken l) (sym (h.parts ∙ ap (λ (l : List ℕ). h.front ++ l) none ∙ append-nil h.front)) h.took

-- else a front of it
pub Holds-front : (a b : Output) (y : TextBuffer) (text : List ℕ) → Holds a b y text → GainsFront a.taken b.taken text
Holds-front a b y text h =
    let e : h.front ≡ take (length h.front) text = sym (take_at h.front h.rest (length h.front) refl) ∙ ap (λ (l : List ℕ). take (length h.front) l) (sym h.parts) in
    (length h.front, subst (λ (l : List ℕ). Appends a.taken b.taken l) e h.took)

pub escaped-append : (place : Place) (xs ys : List ℕ) → escaped place (xs ++ ys) ≡ escaped place xs ++ escaped place ys
unfolding escaped
escaped-append place xs ys = flat_map-append _ xs ys

pub escaped-none : (place : Place) → escaped place [] ≡ []
unfolding escaped
escaped-none place = refl

-- a byte that stands as it is
pub escaped-standing : (place : Place) (b : ℕ) → may_stand place b ≡ true → escaped place (b ∷ []) ≡ b ∷ []
unfolding escaped
escaped-standing place b e = rw e refl

-- and one that doesn't
pub escaped-other : (place : Place) (b : ℕ) → may_stand place b ≡ false → escaped place (b ∷ []) ≡ escape_of b
unfolding escaped
escaped-other place b e = rw e refl

-- the same text in another form
pub Sends-as : (a b : Output) (x y : TextBuffer) (s t : List ℕ) → s ≡ t → Sends a x b y s → Sends a x b y t
Sends-as a b x y s t e p = subst (λ (l : List ℕ). Sends a x b y l) e p

-- a whole text, and what waits of it
pub sent : (a b c : Output) (x y z : TextBuffer) (text : List ℕ) → IsFresh x → Sends a x b y text → Sends b y c z [] → Holds a c z text
sent a b c x y z text fresh p q = subst (λ (l : List ℕ). Holds a c z l) (append-nil text) (q.sends a text (p.sends a [] (Holds-fresh a x fresh)))

pub on_ok_map : {T E P Q : Type 0} (r : Result T E) → OnOk r P → (P → Q) → OnOk r Q
on_ok_map (Ok x) p f = f p
on_ok_map (Err e) p f = p

pub on_err_map : {T E P Q : Type 0} (r : Result T E) → OnErr r P → (P → Q) → OnErr r Q
on_err_map (Ok x) p f = p
on_err_map (Err e) p f = f p
