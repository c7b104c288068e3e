mod Lists
mod Inverse
mod Alike
mod Decided
mod ReferenceRows
