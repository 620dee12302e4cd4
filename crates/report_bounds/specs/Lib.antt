pub mod BoundedTexts
